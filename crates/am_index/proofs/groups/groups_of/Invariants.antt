use Rattle.std.proofs.Common.{◌≡◌, ◌++◌, ◌∷◌, drop}
use Rattle.am_index.specs.declared.key.Group.TheVariants.{Class}
use Rattle.am_index.specs.Keys.{groups_of_filters}
use Rattle.am_index.proofs.groups.groups_of.Given as goal

-- what was added so far, and what the filters that are left add, is what all of them add
abbrev pub invariant-loop-filter : goal.invariant-loop-filter
invariant-loop-filter l =
    l.groups.items ++ groups_of_filters (drop l.filter-index l.filter-items)
    ≡ Class l.decl.class ∷ groups_of_filters l.filter-items
