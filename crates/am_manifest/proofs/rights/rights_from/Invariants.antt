use Rattle.std.proofs.Common.{◌≡◌, map, drop}
use Rattle.toml.specs.View.{view}
use Rattle.am_manifest.specs.Rights.{rights_from}
use Rattle.am_manifest.specs.RightsHeld.{place_in, texts_in}
use Rattle.am_manifest.proofs.rights.rights_from.Given as goal

abbrev pub invariant-loop-i : goal.invariant-loop-i
invariant-loop-i l =
    rights_from (place_in l.places) l.kind (texts_in l.held) l.i (map view (drop l.i l.values))
    ≡ rights_from (place_in l.places) l.kind (texts_in l.initial.held) 0 (map view l.values)
