-- Fields with whole numbers.
use Rattle.std.specs.Prelude.{ℕ, ℤ, nat_lt, List, Option, option_and_then, Result, Ok, Err, if◌then◌else◌}
use Rattle.serde_json.specs.Data.{Data}
use Rattle.serde_json.specs.Find.{as_number, as_u64, as_i64}
use Rattle.am_types.specs.Reading.{◌>>=◌}
use Rattle.am_wire_fields.specs.declared.fault.WireFault.{WireFault}
use Rattle.am_wire_fields.specs.declared.fault.WireFault.TheVariants.{WrongKind}
use Rattle.am_wire_fields.specs.Fields.{field, if_said, of_kind, required_by}

-- the whole number from 0 to 18,446,744,073,709,551,615 in a value
unfoldable pub natural_in : List ℕ → Data → Result ℕ WireFault
natural_in name value = of_kind name (option_and_then as_u64 (as_number value))

-- the signed whole number of 64 bits in a value
unfoldable pub whole_in : List ℕ → Data → Result ℤ WireFault
whole_in name value = of_kind name (option_and_then as_i64 (as_number value))

-- a required field with a number from 0 on
unfoldable pub required_natural : List ℕ → Data → Result ℕ WireFault
required_natural name parent = required_by natural_in name parent

-- the number, unless it is greater than this one
abbrev pub up_to : ℕ → List ℕ → ℕ → Result ℕ WireFault
up_to greatest name n = if nat_lt greatest n then Err (WrongKind name) else Ok n

-- a required field with a number from 0 to this one
unfoldable pub required_up_to : ℕ → List ℕ → Data → Result ℕ WireFault
required_up_to greatest name parent = required_natural name parent >>= up_to greatest name

-- a required field with a signed number
unfoldable pub required_whole : List ℕ → Data → Result ℤ WireFault
required_whole name parent = required_by whole_in name parent

-- a field with a number from 0 on, if it is present
unfoldable pub optional_natural : List ℕ → Data → Result (Option ℕ) WireFault
optional_natural name parent = if_said (natural_in name) (field name parent)

-- a field with a signed number, if it is present
unfoldable pub optional_whole : List ℕ → Data → Result (Option ℤ) WireFault
optional_whole name parent = if_said (whole_in name) (field name parent)
