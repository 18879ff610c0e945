use Rattle.std.proofs.Common.{◌≡◌, ℕ, ◌≤◌, List, length, drop}
use Rattle.am_manifest.specs.Rights.{place_among}
use Rattle.am_manifest.specs.RightsHeld.{place_in}
use Rattle.am_manifest.proofs.rights.places_of.Given as goal

abbrev pub invariant-loop-i : goal.invariant-loop-i
invariant-loop-i l = record {
  within : l.i ≤ length l.packages;
  found : (name : List ℕ) → place_in l.places name ≡ place_among (drop l.i l.packages) l.i name;
}

abbrev pub decreases-loop-i : goal.decreases-loop-i
decreases-loop-i l = l.i
