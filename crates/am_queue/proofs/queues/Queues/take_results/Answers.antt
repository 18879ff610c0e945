use Rattle.std.proofs.Common.{not, arith}
use Rattle.am_model.specs.Broadcasts as broadcasts
use Rattle.am_queue.specs.Taken.{is_taken}
use Rattle.am_queue.proofs.Keeping.{mild}
use Rattle.am_queue.proofs.Rising.{rising_kept}
use Rattle.am_queue.proofs.Soundness.{unchanged_mild}
use Rattle.am_queue.proofs.queues.Queues.take_results.Goals as goal

pub invariant_of-self : goal.invariant_of-self
invariant_of-self c =
    mild c.self.invariant
    (rw c.take_out.ensures.left (rising_kept (λ (r : broadcasts.Result). not (is_taken c.args.taken.now r)) 0 _ _
    c.self.invariant.sound.rising))
    (unchanged_mild _) (unchanged_mild _) c.take_out.ensures.room (λ uid. omega (arith, c.take_out.ensures.live uid))
