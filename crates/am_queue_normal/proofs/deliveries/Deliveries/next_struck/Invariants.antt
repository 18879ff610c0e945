use Rattle.std.proofs.Common.{◌≡◌}
use Rattle.am_queue_ordered.specs.Struck.{strikes}
use Rattle.am_queue_normal.specs.Posted.{Posted}
use Rattle.am_queue_normal.proofs.Finding.{first_that}
use Rattle.am_queue_normal.proofs.deliveries.Deliveries.next_struck.Given as goal

-- none so far is struck
abbrev pub invariant-loop-number : goal.invariant-loop-number
invariant-loop-number l =
    (goal.iterator-loop-number).can_next l.number-iterator ×
    (goal.iterator-loop-number).is_finite l.number-iterator ×
    (first_that (λ (p : Posted). strikes l.struck p.spot) l.number-iterator
    ≡ first_that (λ (p : Posted). strikes l.struck p.spot) l.initial.number-iterator)
