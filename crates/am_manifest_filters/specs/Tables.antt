-- The values at the keys of a TOML table. The places of its keys begin with `at`.
use Rattle.std.specs.Prelude.{ℕ, ◌+◌, Bool, not, codes, List, [], ◌∷◌, length, nat_lt, is_some, if◌then◌else◌, Option, Some, None, option_and_then, Result, Ok, Err}
use Rattle.std.specs.List.{find}
use Rattle.toml.specs.Data.{Data, Items, no_items, item, Members, no_members, member, get, as_str, as_bool, as_array, as_table}
use Rattle.am_types.specs.declared.manifest.ManifestFault.{ManifestFault}
use Rattle.am_types.specs.declared.manifest.ManifestFault.TheVariants.{Missing, WrongKind, OverLimit, LeftOut}
use Rattle.am_uri.specs.declared.text.Form.{Form}
use Rattle.am_types.specs.Reading.{◌>>=◌}
use Rattle.am_manifest_filters.specs.Texts.{text_in, key_place, entry_place, within_entry}

-- the items as a list
abbrev pub values_of : Items → List Data
values_of no_items = []
values_of (item value others) = value ∷ values_of others

-- a required text
unfoldable pub required_in : Form → List ℕ → Option Data → Result (List ℕ) ManifestFault
required_in form place None = Err (Missing place)
required_in form place (Some value) = text_in form place (as_str value)

-- the text at a required key
unfoldable pub required_text : Form → List ℕ → List ℕ → Data → Result (List ℕ) ManifestFault
required_text form at key value = required_in form (key_place at key) (get key value)

-- an optional text
unfoldable pub optional_text_in : Form → List ℕ → Option Data → Result (Option (List ℕ)) ManifestFault
optional_text_in form place None = Ok None
optional_text_in form place (Some value) = do
  text ← text_in form place (as_str value)
  Ok (Some text)

-- the text at an optional key
unfoldable pub optional_text : Form → List ℕ → List ℕ → Data → Result (Option (List ℕ)) ManifestFault
optional_text form at key value = optional_text_in form (key_place at key) (get key value)

-- a boolean
unfoldable pub truth_in : List ℕ → Option Bool → Result (Option Bool) ManifestFault
truth_in place None = Err (WrongKind place)
truth_in place (Some truth) = Ok (Some truth)

-- an optional boolean
unfoldable pub optional_truth_in : List ℕ → Option Data → Result (Option Bool) ManifestFault
optional_truth_in place None = Ok None
optional_truth_in place (Some value) = truth_in place (as_bool value)

-- the boolean at an optional key
unfoldable pub optional_truth : List ℕ → List ℕ → Data → Result (Option Bool) ManifestFault
optional_truth at key value = optional_truth_in (key_place at key) (get key value)

-- the values of an array
unfoldable pub values_in : List ℕ → Option Items → Result (List Data) ManifestFault
values_in place None = Err (WrongKind place)
values_in place (Some items) = Ok (values_of items)

-- the values of an optional array
unfoldable pub optional_values_in : List ℕ → Option Data → Result (List Data) ManifestFault
optional_values_in place None = Ok []
optional_values_in place (Some value) = values_in place (as_array value)

-- the values of the array at a key: none if the key is absent
unfoldable pub optional_values : List ℕ → List ℕ → Data → Result (List Data) ManifestFault
optional_values at key value = optional_values_in (key_place at key) (get key value)

-- a count is within the limit with this name
unfoldable pub at_most : ℕ → List ℕ → ℕ → Result (Unit {0}) ManifestFault
at_most limit name count = if nat_lt limit count then Err (OverLimit name) else Ok tt

-- each value is read, where the first of them has this index
unfoldable pub each : {A : Type 0} → (ℕ → Data → Result A ManifestFault) → ℕ → List Data → Result (List A) ManifestFault
each read i [] = Ok []
each read i (value ∷ values) = do
  first ← read i value
  others ← each read (i + 1) values
  Ok (first ∷ others)

-- the keys of a table, which ascend by bytes
abbrev pub keys_in : Members → List (List ℕ)
keys_in no_members = []
keys_in (member key value members) = key ∷ keys_in members

-- the least key that isn't known
abbrev pub unlisted : (List ℕ → Bool) → Members → Option (List ℕ)
unlisted is_known members = find (λ key. not (is_known key)) (keys_in members)

-- no key is left out; if there is one, it is an error
unfoldable pub none_left_out : List ℕ → Option (List ℕ) → Result (Unit {0}) ManifestFault
none_left_out at None = Ok tt
none_left_out at (Some key) = Err (LeftOut (key_place at key))

-- a table has only known keys
unfoldable pub only_keys : (List ℕ → Bool) → List ℕ → Data → Result (Unit {0}) ManifestFault
only_keys is_known at value = none_left_out at (option_and_then (unlisted is_known) (as_table value))

-- what the places in an entry, which must be a table, begin with
unfoldable pub entry_table : List ℕ → List ℕ → ℕ → Data → Result (List ℕ) ManifestFault
entry_table at key i value =
    if is_some (as_table value) then Ok (within_entry at key i) else Err (WrongKind (entry_place at key i))

-- an entry that is a text of the form
unfoldable pub entry_text : Form → List ℕ → List ℕ → ℕ → Data → Result (List ℕ) ManifestFault
entry_text form at key i value = text_in form (entry_place at key i) (as_str value)

-- the texts of the array at a key, at most this many
unfoldable pub texts_at : Form → List ℕ → List ℕ → ℕ → Data → Result (List (List ℕ)) ManifestFault
texts_at form at key limit value = do
  values ← optional_values at key value
  few ← at_most limit (codes "list") (length values)
  each (entry_text form at key) 0 values
