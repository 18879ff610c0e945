use Rattle.std.proofs.Common.{◌≡◌, ◌++◌, drop, map}
use Rattle.am_index.specs.declared.key.Group.TheVariants.{Action}
use Rattle.am_index.proofs.groups.add_actions.Given as goal

-- what was added so far, and what the texts that are left add, is what all of them add
abbrev pub invariant-loop-action : goal.invariant-loop-action
invariant-loop-action l =
    l.groups.items ++ map Action (drop l.action-index l.action-items) ≡ l.initial.groups.items
    ++ map Action l.action-items
