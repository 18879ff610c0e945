-- The fields of a JSON object.
use Rattle.std.specs.Prelude.{ℕ, Bool, false, not, List, [], ◌∷◌, Option, Some, None, Result, Ok, Err}
use Rattle.std.specs.List.{find}
use Rattle.serde_json.specs.Data.{Data, null, boolean, number, string, array, object, Members, no_members, member}
use Rattle.serde_json.specs.Find.{get, as_bool, as_object}
use Rattle.am_model.specs.Texts.{lists}
use Rattle.am_wire_fields.specs.declared.fault.WireFault.{WireFault}
use Rattle.am_wire_fields.specs.declared.fault.WireFault.TheVariants.{Missing, WrongKind, UnknownField}
use Rattle.am_types.specs.Reading.{◌>>=◌}

-- a null counts as absent
abbrev pub unless_null : Option Data → Option Data
unless_null None = None
unless_null (Some null) = None
unless_null (Some (boolean b)) = Some (boolean b)
unless_null (Some (number n)) = Some (number n)
unless_null (Some (string s)) = Some (string s)
unless_null (Some (array ds)) = Some (array ds)
unless_null (Some (object ms)) = Some (object ms)

-- the value of a field that is present
unfoldable pub field : List ℕ → Data → Option Data
field name value = unless_null (get name value)

-- the keys of an object, which ascend by bytes
abbrev pub keys_in : Members → List (List ℕ)
keys_in no_members = []
keys_in (member key value members) = key ∷ keys_in members

-- the least key that isn't one of these fields
abbrev pub unlisted : List (List ℕ) → Members → Option (List ℕ)
unlisted fields members = find (λ key. not (lists fields key)) (keys_in members)

-- no key is unknown; if there is one, it is an error
unfoldable pub none_unknown : Option (List ℕ) → Result (Unit {0}) WireFault
none_unknown None = Ok tt
none_unknown (Some key) = Err (UnknownField key)

-- the members are those of an object, with the name that a fault gives it, and have no other keys than these fields
unfoldable pub only_fields_in : List ℕ → List (List ℕ) → Option Members → Result (Unit {0}) WireFault
only_fields_in name fields None = Err (WrongKind name)
only_fields_in name fields (Some members) = none_unknown (unlisted fields members)

-- the value with this name is an object with no other fields than these
unfoldable pub only_fields : List ℕ → List (List ℕ) → Data → Result (Unit {0}) WireFault
only_fields name fields value = only_fields_in name fields (as_object value)

-- what is read from a value, if there is a value
abbrev pub if_said : {A : Type 0} → (Data → Result A WireFault) → Option Data → Result (Option A) WireFault
if_said read None = Ok None
if_said read (Some value) = read value >>= λ x. Ok (Some x)

-- the value of a required field
unfoldable pub present : List ℕ → Option Data → Result Data WireFault
present name None = Err (Missing name)
present name (Some value) = Ok value

-- the value of a required field of an object
unfoldable pub required : List ℕ → Data → Result Data WireFault
required name parent = present name (field name parent)

-- what `read` reads from a required field
abbrev pub required_by : {A : Type 0} → (List ℕ → Data → Result A WireFault) → List ℕ → Data → Result A WireFault
required_by read name parent = do
  value ← required name parent
  read name value

-- the value as the expected kind, if it is of that kind
unfoldable pub of_kind : {A : Type 0} → List ℕ → Option A → Result A WireFault
of_kind name None = Err (WrongKind name)
of_kind name (Some x) = Ok x

-- the boolean in a value
unfoldable pub truth_in : List ℕ → Data → Result Bool WireFault
truth_in name value = of_kind name (as_bool value)

-- a required boolean field
unfoldable pub required_truth : List ℕ → Data → Result Bool WireFault
required_truth name parent = required_by truth_in name parent

-- a boolean that is false if absent
unfoldable pub truth_or_false : List ℕ → Option Data → Result Bool WireFault
truth_or_false name None = Ok false
truth_or_false name (Some value) = truth_in name value

-- a boolean field, false if it is absent
unfoldable pub optional_truth : List ℕ → Data → Result Bool WireFault
optional_truth name parent = truth_or_false name (field name parent)
