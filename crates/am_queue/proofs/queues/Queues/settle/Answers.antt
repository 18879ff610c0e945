use Rattle.std.proofs.Common.{arith}
use Rattle.am_queue.proofs.Keeping.{numbers_left, other_way, settles}
use Rattle.am_queue.proofs.queues.Queues.settle.Goals as goal

pub settle-self-inside-requires-clause-small : goal.settle-self-inside-requires-clause-small
settle-self-inside-requires-clause-small c = omega (arith, numbers_left c.self.invariant.sound)

pub settle-self-inside-requires-else-foreground-clause-small :
    goal.settle-self-inside-requires-else-foreground-clause-small
settle-self-inside-requires-else-foreground-clause-small c = omega (arith, numbers_left c.self.invariant.sound)

pub invariant_of-self : goal.invariant_of-self
invariant_of-self c =
    let after = c.settle-self-inside.ensures in
    settles _ c.self.invariant after.queue after.results after.next after.room after.live

pub invariant_of-self-else-foreground : goal.invariant_of-self-else-foreground
invariant_of-self-else-foreground c =
    let after = c.settle-self-inside-else-foreground.ensures in
    other_way (settles _ (other_way c.self.invariant) after.queue after.results after.next after.room after.live)
