use Rattle.std.proofs.Common.{◌≡◌, ◌≤◌, ◌-◌, length}
use Rattle.am_queue_normal.proofs.Finding.{items_below}
use Rattle.am_queue_normal.proofs.deliveries.Deliveries.items.Given as goal

-- the items so far are those below a number, and at most as many as asked for
abbrev pub invariant-loop-items : goal.invariant-loop-items
invariant-loop-items l = (l.items.items ≡ items_below l.uid l.from l.self) × (length l.items.items ≤ l.most)

abbrev pub decreases-loop-items : goal.decreases-loop-items
decreases-loop-items l = l.end - l.from
