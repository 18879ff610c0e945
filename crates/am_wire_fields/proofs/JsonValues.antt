-- The JSON value of a body, from what its reader answers.
use Rattle.std.proofs.Common.{◌≡◌, ℕ, Bool, true, false, cond, List, Option, Some, None, Result, Ok, Err, refl, ap}
use Rattle.std.specs.Str.{IsUtf8, is_utf8}
use Rattle.std.proofs.lemmas.Str.{IsUtf8-from_is_utf8, is_utf8-from_IsUtf8}
use Rattle.serde_json.specs.Data.{Data}
use Rattle.serde_json.specs.Read.{read}
use Rattle.am_wire_fields.specs.declared.fault.WireFault.{WireFault}
use Rattle.am_wire_fields.specs.declared.fault.WireFault.TheVariants.{NotJson}
use Rattle.am_wire_fields.specs.Bodies.{json_of, value_of}

-- a text that reads as a value has it
pub value_of_text : (bytes : List ℕ) (value : Data) → IsUtf8 bytes × (read bytes ≡ Some value) → value_of bytes
    ≡ Ok value
unfolding value_of json_of
value_of_text bytes value h = rw (is_utf8-from_IsUtf8 bytes h.0) (ap json_of h.1)

-- no value, where there is none if the test holds
none_at : (test : Bool) (value : Option Data) → (test ≡ true → value ≡ None)
    → ◌≡◌ {A = Result Data WireFault} (cond test (json_of value) (Err NotJson)) (Err NotJson)
unfolding json_of
none_at true value h = ap json_of (h refl)
none_at false value h = refl

-- bytes that read as nothing if they are a text have no value
pub value_of_none : (bytes : List ℕ) → (IsUtf8 bytes → read bytes ≡ None) → value_of bytes ≡ Err NotJson
unfolding value_of
value_of_none bytes h = none_at (is_utf8 bytes) (read bytes) (λ e. h (IsUtf8-from_is_utf8 bytes e))
