use Rattle.std.proofs.Common.{◌≡◌, ◌++◌, drop, map}
use Rattle.am_index.specs.declared.key.Group.TheVariants.{Scheme}
use Rattle.am_index.proofs.groups.add_schemes.Given as goal

-- what was added so far, and what the texts that are left add, is what all of them add
abbrev pub invariant-loop-scheme : goal.invariant-loop-scheme
invariant-loop-scheme l =
    l.groups.items ++ map Scheme (drop l.scheme-index l.scheme-items) ≡ l.initial.groups.items
    ++ map Scheme l.scheme-items
