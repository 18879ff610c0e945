use Rattle.std.proofs.Common.{◌≡◌, ℕ, ◌≤◌, List, length, drop}
use Rattle.am_uri.specs.Texts.{is_among}
use Rattle.am_manifest.specs.Manifests.{classes, first_repeated}
use Rattle.am_manifest.proofs.manifest.first_repeated.Given as goal

abbrev pub invariant-loop-i : goal.invariant-loop-i
invariant-loop-i l = record {
  within : l.i ≤ length l.decls;
  later : (text : List ℕ) → is_among text l.later.keys ≡ is_among text (classes (drop l.i l.decls));
  repeated : l.repeated ≡ first_repeated (classes (drop l.i l.decls));
}

abbrev pub decreases-loop-i : goal.decreases-loop-i
decreases-loop-i l = l.i
