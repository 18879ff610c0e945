use Rattle.std.proofs.Common.{◌≡◌, ◌<◌, ◌++◌, take, drop, length}
use Rattle.am_uri.specs.PathPlaces.{skipped}
use Rattle.am_uri.proofs.places.skip.Given as goal

abbrev pub invariant-loop-i : goal.invariant-loop-i
invariant-loop-i l = record {
  same_length : length l.reached ≡ length l.initial.reached;
  carries : l.carry < 2;
  so_far : take l.i l.reached ++ skipped 63 l.carry (drop l.i l.repeated) (drop l.i l.reached)
      ≡ skipped 63 0 l.repeated l.initial.reached;
}
