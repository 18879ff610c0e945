use Rattle.std.proofs.Common.{arith}
use Rattle.am_queue.proofs.Keeping.{mild}
use Rattle.am_queue_ordered.specs.Struck.{strikes}
use Rattle.am_queue.proofs.Soundness.{struck_mild}
use Rattle.am_queue.proofs.queues.Queues.strike.Goals as goal

pub invariant_of-self : goal.invariant_of-self
invariant_of-self c =
    let live = rw c.strike.ensures.normal at c.strike.ensures.live in
    rw (c.strike.ensures.normal, c.strike-2.ensures, c.strike-3.ensures)
    (mild c.self.invariant c.self.invariant.sound.rising (struck_mild (strikes c.args.struck.now) _)
    (struck_mild (strikes c.args.struck.now) _) (omega arith) (λ uid. omega (arith, live uid)))
