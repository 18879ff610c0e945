use Rattle.std.proofs.Common.{◌≡◌, ℕ, Result, drop, map}
use Rattle.am_types.specs.declared.manifest.ManifestFault.{ManifestFault}
use Rattle.toml.specs.Data.{Data}
use Rattle.toml.specs.View.{view}
use Rattle.am_types.specs.Reading.{Gives}
use Rattle.am_manifest_filters.specs.Tables.{each}
use Rattle.am_manifest_filters.proofs.Each.{front_then}
use Rattle.am_manifest_filters.proofs.tables.read_each.Given as goal

abbrev pub invariant-loop-i : goal.invariant-loop-i
invariant-loop-i g l =
    (what : ℕ → Data → Result _ ManifestFault) → ((i : ℕ) (value : _) (said : _) → goal.F-post g l.read i value said
    → Gives said (what i (view value.now)))
    → front_then l.items.items (each what l.i (map view (drop l.i l.values))) ≡ each what 0 (map view l.values)
