-- Fields with texts.
use Rattle.std.specs.Prelude.{ℕ, nat_lt, List, length, if◌then◌else◌, Option, Some, None, Result, Ok, Err}
use Rattle.serde_json.specs.Data.{Data}
use Rattle.serde_json.specs.Find.{as_str}
use Rattle.am_uri.specs.declared.text.Form.{Form}
use Rattle.am_uri.specs.Texts.{fits}
use Rattle.am_wire_fields.specs.declared.fault.WireFault.{WireFault}
use Rattle.am_wire_fields.specs.declared.fault.WireFault.TheVariants.{WrongKind, TooLong}
use Rattle.am_wire_fields.specs.Fields.{field, if_said, required_by}

-- the text, unless it has more than this many bytes
abbrev pub text_within : ℕ → List ℕ → List ℕ → Result (List ℕ) WireFault
text_within limit name text = if nat_lt limit (length text) then Err (TooLong name) else Ok text

-- a text of the form with at most this many bytes; `None` is a value that isn't a text
unfoldable pub text_of : Form → ℕ → List ℕ → Option (List ℕ) → Result (List ℕ) WireFault
text_of form limit name None = Err (WrongKind name)
text_of form limit name (Some text) = if fits form text then text_within limit name text else Err (WrongKind name)

-- the text in a value
unfoldable pub text_in : Form → ℕ → List ℕ → Data → Result (List ℕ) WireFault
text_in form limit name value = text_of form limit name (as_str value)

-- a required text field
unfoldable pub required_text : Form → ℕ → List ℕ → Data → Result (List ℕ) WireFault
required_text form limit name parent = required_by (text_in form limit) name parent

-- a text field, if it is present
unfoldable pub optional_text : Form → ℕ → List ℕ → Data → Result (Option (List ℕ)) WireFault
optional_text form limit name parent = if_said (text_in form limit name) (field name parent)
