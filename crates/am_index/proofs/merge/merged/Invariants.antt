use Rattle.std.proofs.Common.{◌≡◌, ◌++◌, drop}
use Rattle.am_index.specs.Lookups.{merged}
use Rattle.am_index.proofs.merge.merged.Given as goal

-- what was merged so far, and what is left of both merged, is both merged
abbrev pub invariant-loop-spot : goal.invariant-loop-spot
invariant-loop-spot l =
    l.all.items ++ merged (drop l.spot-index l.spots) l.rest ≡ merged l.spots l.others
