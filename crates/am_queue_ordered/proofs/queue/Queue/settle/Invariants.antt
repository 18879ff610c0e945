use Rattle.std.proofs.Common.{◌≡◌, vec_capacity, length}
use Rattle.am_queue_ordered.proofs.Settling.{IsUnderWay}
use Rattle.am_queue_ordered.proofs.queue.Queue.settle.Given as goal

-- what was removed so far, and what the rest of the queue settles to, is what all of it settles to
abbrev pub invariant-loop-self : goal.invariant-loop-self
invariant-loop-self l =
    IsUnderWay l.deadline l.initial.next l.next l.initial.self l.self l.initial.results.items l.results.items
    l.initial.live l.live
    × (vec_capacity l.results ≡ vec_capacity l.initial.results)

abbrev pub decreases-loop-self : goal.decreases-loop-self
decreases-loop-self l = length l.self
