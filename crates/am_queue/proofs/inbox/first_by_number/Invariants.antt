use Rattle.std.proofs.Common.{◌≡◌, ◌++◌, List, take, vec_len}
use Rattle.am_types.specs.declared.broadcast.Item.{Item}
use Rattle.am_model.specs.Sending.{by_number}
use Rattle.am_queue.proofs.inbox.first_by_number.Given as goal

-- those that were taken from the end are shown in order
abbrev pub invariant-loop-item : goal.invariant-loop-item
invariant-loop-item l =
    (taken : List Item) × (l.fn.items.items ≡ l.items.items ++ taken) × (l.shown.items ≡ take 64 (by_number taken))

abbrev pub decreases-loop-item : goal.decreases-loop-item
decreases-loop-item l = vec_len l.items
