use Rattle.std.proofs.Common.{◌≡◌, ◌++◌, drop}
use Rattle.am_model.specs.Sending.{result_items}
use Rattle.am_queue.proofs.results.Results.push_items.Given as goal

-- what was put so far, and the items of the results that are left, are those of all
abbrev pub invariant-loop-kept : goal.invariant-loop-kept
invariant-loop-kept l =
    l.items.items ++ result_items l.uid (drop l.kept-index l.kept-items) ≡ l.initial.items.items
    ++ result_items l.uid l.kept-items
