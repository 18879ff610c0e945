use Rattle.std.proofs.Common.{refl, arith}
use Rattle.am_queue.proofs.Keeping.{mild}
use Rattle.am_queue.proofs.Soundness.{all_unwanted_mild}
use Rattle.am_queue.proofs.queues.Queues.unwant.Goals as goal

pub invariant_of-self : goal.invariant_of-self
invariant_of-self c =
    rw (c.unwant.ensures, c.unwant-2.ensures)
    (mild c.self.invariant c.self.invariant.sound.rising (all_unwanted_mild c.args.uid _)
    (all_unwanted_mild c.args.uid _) (omega arith) (λ uid. refl))
