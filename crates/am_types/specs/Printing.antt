-- How a fault is printed.
use Rattle.std.specs.Prelude.{ℕ, codes, List, ◌++◌, Option, Some}
use Rattle.am_types.specs.declared.failure.Unmade.{Unmade}
use Rattle.am_types.specs.declared.failure.Unmade.TheVariants as unmade
use Rattle.am_types.specs.declared.manifest.ManifestFault.{ManifestFault}
use Rattle.am_types.specs.declared.manifest.ManifestFault.TheVariants.{NotToml, Missing, WrongKind, BadUri, BadMime, BadPriority, ExportedUnstated, Duplicate, OverLimit, LeftOut}

-- a fault as a line shows it
abbrev pub printed : ManifestFault → List ℕ
printed NotToml = codes "not_toml"
printed (Missing place) = codes "missing " ++ place
printed (WrongKind place) = codes "wrong_kind " ++ place
printed (BadUri place) = codes "bad_uri " ++ place
printed (BadMime place) = codes "bad_mime " ++ place
printed BadPriority = codes "bad_priority"
printed (ExportedUnstated class) = codes "exported_unstated " ++ class
printed (Duplicate name) = codes "duplicate " ++ name
printed (OverLimit name) = codes "over_limit " ++ name
printed (LeftOut place) = codes "left_out " ++ place

-- why nothing was made, as a line shows it: the fault, whose text is known, or that memory ran out
abbrev pub printed_unmade : {F : Type 0} → (F → Option (List ℕ)) → Unmade F → Option (List ℕ)
printed_unmade text (unmade.Fault fault) = text fault
printed_unmade text unmade.NoMemory = Some (codes "no_memory")
