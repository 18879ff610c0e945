-- Extras: an object of at most 64 texts, signed whole numbers and booleans.
use Rattle.std.specs.Prelude.{ℕ, ℤ, nat_lt, List, [], ◌∷◌, length, codes, if◌then◌else◌, Option, Some, None, Result, Ok, Err}
use Rattle.serde_json.specs.Data.{Data, null, boolean, number, string, array, object, Members, no_members, member}
use Rattle.serde_json.specs.Find.{as_i64, as_object}
use Rattle.am_types.specs.declared.intent.Extra.{Extra}
use Rattle.am_types.specs.declared.intent.Extra.TheVariants.{Word, Whole, Truth}
use Rattle.am_types.specs.declared.intent.Named.{Named}
use Rattle.am_wire_fields.specs.declared.fault.WireFault.{WireFault}
use Rattle.am_wire_fields.specs.declared.fault.WireFault.TheVariants.{WrongKind, TooLong}
use Rattle.am_wire_fields.specs.Fields.{field, keys_in}
use Rattle.am_types.specs.Reading.{◌>>=◌}

-- a text among the extras, or one of their keys, has at most 1,024 bytes
unfoldable pub short : List ℕ → Result (List ℕ) WireFault
short text = if nat_lt 1024 (length text) then Err (TooLong (codes "extras")) else Ok text

-- a signed whole number, if it is one of 64 bits
unfoldable pub whole_extra : Option ℤ → Result Extra WireFault
whole_extra None = Err (WrongKind (codes "extras"))
whole_extra (Some n) = Ok (Whole n)

-- the extra in a value
unfoldable pub extra_in : Data → Result Extra WireFault
extra_in null = Err (WrongKind (codes "extras"))
extra_in (boolean truth) = Ok (Truth truth)
extra_in (number n) = whole_extra (as_i64 n)
extra_in (string text) = do
  word ← short text
  Ok (Word word)
extra_in (array ds) = Err (WrongKind (codes "extras"))
extra_in (object ms) = Err (WrongKind (codes "extras"))

-- an extra under its key
unfoldable pub named_in : List ℕ → Data → Result Named WireFault
named_in key value = do
  extra ← extra_in value
  name ← short key
  Ok (record { key = name; value = extra })

-- each member as an extra, by rising key
unfoldable pub each_named : Members → Result (List Named) WireFault
each_named no_members = Ok []
each_named (member key value members) = do
  first ← named_in key value
  others ← each_named members
  Ok (first ∷ others)

-- at most as many members as extras may have
unfoldable pub few_extras : Members → Result (List Named) WireFault
few_extras members = if nat_lt 64 (length (keys_in members)) then Err (TooLong (codes "extras")) else each_named members

-- the members of an object, as extras
unfoldable pub extras_of : Option Members → Result (List Named) WireFault
extras_of None = Err (WrongKind (codes "extras"))
extras_of (Some members) = few_extras members

-- the extras in a value
unfoldable pub extras_in : Data → Result (List Named) WireFault
extras_in value = extras_of (as_object value)

-- optional extras
unfoldable pub extras_if_said : Option Data → Result (List Named) WireFault
extras_if_said None = Ok []
extras_if_said (Some value) = extras_in value

-- the field `extras`, none if it is absent
unfoldable pub optional_extras : Data → Result (List Named) WireFault
optional_extras parent = extras_if_said (field (codes "extras") parent)
