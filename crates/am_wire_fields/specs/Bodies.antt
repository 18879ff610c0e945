-- The JSON value of a request's body.
use Rattle.std.specs.Prelude.{ℕ, List, if◌then◌else◌, Option, Some, None, Result, Ok, Err}
use Rattle.std.specs.Str.{is_utf8}
use Rattle.serde_json.specs.Data.{Data}
use Rattle.serde_json.specs.Read.{read}
use Rattle.am_wire_fields.specs.declared.fault.WireFault.{WireFault}
use Rattle.am_wire_fields.specs.declared.fault.WireFault.TheVariants.{NotJson}

-- the value of a text, if it is one
unfoldable pub json_of : Option Data → Result Data WireFault
json_of None = Err NotJson
json_of (Some value) = Ok value

-- the JSON value of the bytes, if they are one in UTF-8
unfoldable pub value_of : List ℕ → Result Data WireFault
value_of bytes = if is_utf8 bytes then json_of (read bytes) else Err NotJson
