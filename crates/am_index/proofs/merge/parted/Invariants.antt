use Rattle.std.proofs.Common.{◌≡◌, ◌++◌, drop, take}
use Rattle.am_index.specs.Lookups.{spots_before, spots_after}
use Rattle.am_index.proofs.merge.parted.Given as goal

-- all so far come before the spot
abbrev pub invariant-loop-i : goal.invariant-loop-i
invariant-loop-i l = record {
  before : spots_before l.spot l.others ≡ take l.i l.others ++ spots_before l.spot (drop l.i l.others);
  after : spots_after l.spot l.others ≡ spots_after l.spot (drop l.i l.others);
}
