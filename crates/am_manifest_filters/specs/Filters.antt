-- The filters of a component.
use Rattle.std.specs.Prelude.{ℕ, ℤ, pos, negsuc, Bool, not, ◌==◌, codes, List, length, filter, int_lt, if◌then◌else◌, Option, Some, None, Result, Ok, Err}
use Rattle.toml.specs.Data.{Data, get, as_integer}
use Rattle.am_types.specs.declared.filter.Filter.{Filter}
use Rattle.am_types.specs.declared.manifest.ManifestFault.{ManifestFault}
use Rattle.am_types.specs.declared.manifest.ManifestFault.TheVariants.{WrongKind, BadPriority}
use Rattle.am_uri.specs.declared.text.Form.TheVariants.{Filled}
use Rattle.am_manifest_filters.specs.declared.filters.Filters.{Filters}
use Rattle.am_types.specs.Reading.{◌>>=◌}
use Rattle.am_uri.specs.Texts.{sorted_texts}
use Rattle.am_manifest_filters.specs.Texts.{key_place}
use Rattle.am_manifest_filters.specs.Tables.{texts_at, optional_values, at_most, each, entry_table}
use Rattle.am_filter.specs.Rows.{filter_with}
use Rattle.am_manifest_filters.specs.Rows.{rows_at}

-- a whole number of 32 bits
unfoldable pub priority_in : List ℕ → Option ℤ → Result ℤ ManifestFault
priority_in place None = Err (WrongKind place)
priority_in place (Some number) =
    if int_lt number (negsuc 2147483647) then Err BadPriority
    else if int_lt (pos 2147483647) number then Err BadPriority
    else Ok number

-- an optional priority
unfoldable pub optional_priority_in : List ℕ → Option Data → Result ℤ ManifestFault
optional_priority_in place None = Ok (pos 0)
optional_priority_in place (Some value) = priority_in place (as_integer value)

-- the priority of a filter, 0 if none is given
unfoldable pub priority_at : List ℕ → Data → Result ℤ ManifestFault
priority_at at value = optional_priority_in (key_place at (codes "priority")) (get (codes "priority") value)

-- the texts of a list of a filter, of which there are at most 64, sorted
unfoldable pub sorted_at : List ℕ → List ℕ → Data → Result (List (List ℕ)) ManifestFault
sorted_at at key value = do
  texts ← texts_at Filled at key 64 value
  Ok (sorted_texts texts)

-- a filter
unfoldable pub filter_of : List ℕ → Data → Result Filter ManifestFault
filter_of at value = do
  actions ← sorted_at at (codes "action") value
  categories ← sorted_at at (codes "category") value
  priority ← priority_at at value
  rows ← rows_at at value
  Ok (filter_with actions categories rows priority)

-- an entry of the filters of a component
unfoldable pub filter_entry : List ℕ → ℕ → Data → Result Filter ManifestFault
filter_entry at i value = do
  within ← entry_table at (codes "intent-filter") i value
  filter_of within value

-- the filter lists an action
abbrev pub has_action : Filter → Bool
has_action f = not (length f.actions == 0)

-- the filters of a component: whether there is any in its table, and those that list an action
unfoldable pub filters_at : List ℕ → Data → Result Filters ManifestFault
filters_at at value = do
  values ← optional_values at (codes "intent-filter") value
  few ← at_most 32 (codes "filters") (length values)
  filters ← each (filter_entry at) 0 values
  Ok (record { written = not (length values == 0); kept = filter has_action filters })
