-- Fields with lists of at most 64 entries.
use Rattle.std.specs.Prelude.{ℕ, nat_lt, List, [], ◌∷◌, length, if◌then◌else◌, Option, Some, None, Result, Ok, Err}
use Rattle.serde_json.specs.Data.{Data, Items, no_items, item}
use Rattle.serde_json.specs.Find.{as_str, as_array}
use Rattle.am_model.specs.Texts.{lists}
use Rattle.am_uri.specs.declared.text.Form.{Form}
use Rattle.am_wire_fields.specs.declared.fault.WireFault.{WireFault}
use Rattle.am_wire_fields.specs.declared.fault.WireFault.TheVariants.{WrongKind, TooLong}
use Rattle.am_wire_fields.specs.Fields.{field}
use Rattle.am_types.specs.Reading.{◌>>=◌}
use Rattle.am_wire_fields.specs.Texts.{text_in}

-- the items as a list
abbrev pub values_of : Items → List Data
values_of no_items = []
values_of (item value others) = value ∷ values_of others

-- at most as many values as a list may have
unfoldable pub few : List ℕ → List Data → Result (List Data) WireFault
few name values = if nat_lt 64 (length values) then Err (TooLong name) else Ok values

-- the values of an array, of which there are at most 64
unfoldable pub list_of : List ℕ → Option Items → Result (List Data) WireFault
list_of name None = Err (WrongKind name)
list_of name (Some items) = few name (values_of items)

-- the values of the array that a value is
unfoldable pub list_in : List ℕ → Data → Result (List Data) WireFault
list_in name value = list_of name (as_array value)

-- the values of an optional array: none if it is absent
unfoldable pub list_if_said : List ℕ → Option Data → Result (List Data) WireFault
list_if_said name None = Ok []
list_if_said name (Some value) = list_in name value

-- the values of a list field, none if it is absent
unfoldable pub optional_list : List ℕ → Data → Result (List Data) WireFault
optional_list name parent = list_if_said name (field name parent)

-- each value is read, from first to last
unfoldable pub each : {A : Type 0} → (Data → Result A WireFault) → List Data → Result (List A) WireFault
each read [] = Ok []
each read (value ∷ values) = do
  first ← read value
  others ← each read values
  Ok (first ∷ others)

-- the texts of a list, each of the form and of at most 1,024 bytes
unfoldable pub texts_in : Form → List ℕ → List Data → Result (List (List ℕ)) WireFault
texts_in form name values = each (text_in form 1024 name) values

-- a field with a list of texts, none if it is absent
unfoldable pub optional_texts : Form → List ℕ → Data → Result (List (List ℕ)) WireFault
optional_texts form name parent = do
  values ← optional_list name parent
  texts_in form name values

-- a text that is one of these words
unfoldable pub word_of : List (List ℕ) → List ℕ → Option (List ℕ) → Result (List ℕ) WireFault
word_of words name None = Err (WrongKind name)
word_of words name (Some text) = if lists words text then Ok text else Err (WrongKind name)

-- the word in a value, which is one of these
unfoldable pub word_in : List (List ℕ) → List ℕ → Data → Result (List ℕ) WireFault
word_in words name value = word_of words name (as_str value)

-- the words of a list, each one of these
unfoldable pub words_in : List (List ℕ) → List ℕ → List Data → Result (List (List ℕ)) WireFault
words_in words name values = each (word_in words name) values
