use Rattle.std.proofs.Common.{◌≡◌, ◌++◌, drop, map}
use Rattle.am_index.specs.Keys.{type_group}
use Rattle.am_index.proofs.groups.add_mains.Given as goal

-- what was added so far, and what the types that are left add, is what all of them add
abbrev pub invariant-loop-mime : goal.invariant-loop-mime
invariant-loop-mime l =
    l.groups.items ++ map type_group (drop l.mime-index l.mime-items) ≡ l.initial.groups.items
    ++ map type_group l.mime-items
