use Rattle.std.proofs.Common.{refl, arith}
use Rattle.am_queue_ordered.specs.Doings.{doing_of}
use Rattle.am_queue.proofs.Keeping.{mild}
use Rattle.am_queue.proofs.Soundness.{head_turned_mild, unchanged_mild}
use Rattle.am_queue.proofs.queues.Queues.turn_head.Goals as goal

pub invariant_of-self : goal.invariant_of-self
invariant_of-self c =
    rw c.turn_head.ensures
    (mild c.self.invariant c.self.invariant.sound.rising (head_turned_mild (doing_of c.args.doing) _)
    (unchanged_mild _) (omega arith) (λ uid. refl))

pub invariant_of-self-else-foreground : goal.invariant_of-self-else-foreground
invariant_of-self-else-foreground c =
    rw c.turn_head-else-foreground.ensures
    (mild c.self.invariant c.self.invariant.sound.rising (unchanged_mild _)
    (head_turned_mild (doing_of c.args.doing) _) (omega arith) (λ uid. refl))
