use Rattle.am_queue.proofs.SendLaws.{at_once_sound}
use Rattle.am_queue.proofs.queues.Queues.put_at_once.Goals as goal

pub invariant_of-self : goal.invariant_of-self
invariant_of-self c =
    rw (c.in-Ok.ensures.ok, c.as_slice.ensures)
    (at_once_sound _ c.args.sending c.self.invariant (rw (← c.self.view_is) at c.requires.broadcasts)
    c.requires.few c.in-Ok.ensures.counted)
