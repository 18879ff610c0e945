-- A filter.
use Rattle.std.specs.Prelude.{ℕ, ℤ, pos, negsuc, int_lt, nat_lt, List, [], ◌∷◌, length, fold, codes, if◌then◌else◌, Option, Some, None, option_map, option_and_then, Result, Ok, Err}
use Rattle.serde_json.specs.Data.{Data}
use Rattle.serde_json.specs.Find.{as_str, as_number, as_u64, as_i64}
use Rattle.am_types.specs.declared.filter.Authority.{Authority}
use Rattle.am_types.specs.declared.filter.Filter.{Filter}
use Rattle.am_model.specs.Uris.{is_scheme}
use Rattle.am_filter.specs.declared.rows.Paths.{Paths}
use Rattle.am_filter.specs.declared.rows.DataRow.{DataRow}
use Rattle.am_filter.specs.declared.rows.DataRows.{DataRows}
use Rattle.am_uri.specs.declared.text.Form.TheVariants.{Filled}
use Rattle.am_filter.specs.Rows.{filter_with, with_row, no_rows}
use Rattle.am_uri.specs.Texts.{sorted_texts}
use Rattle.am_wire_fields.specs.declared.fault.WireFault.{WireFault}
use Rattle.am_wire_fields.specs.declared.fault.WireFault.TheVariants.{WrongKind, TooLong}
use Rattle.am_wire_fields.specs.Fields.{field, if_said, only_fields, required}
use Rattle.am_wire_fields.specs.Lists.{list_in, optional_list, each, texts_in}
use Rattle.am_types.specs.Reading.{◌>>=◌}
use Rattle.am_wire_fields.specs.Texts.{optional_text}
use Rattle.am_wire_intents.specs.Intents.{categories_of, optional_mime}

-- a scheme of at most 1,024 bytes
unfoldable pub scheme_of : Option (List ℕ) → Result (List ℕ) WireFault
scheme_of None = Err (WrongKind (codes "scheme"))
scheme_of (Some text) =
    if is_scheme text then (if nat_lt 1024 (length text) then Err (TooLong (codes "scheme")) else Ok text)
    else Err (WrongKind (codes "scheme"))

-- the scheme of a row
unfoldable pub scheme_at : Data → Result (Option (List ℕ)) WireFault
scheme_at row = if_said (λ value. scheme_of (as_str value)) (field (codes "scheme") row)

-- a whole number from 0 to 99,999
unfoldable pub port_of : Option ℕ → Result ℕ WireFault
port_of None = Err (WrongKind (codes "port"))
port_of (Some n) = if nat_lt 99999 n then Err (WrongKind (codes "port")) else Ok n

-- the port of a row
unfoldable pub port_at : Data → Result (Option ℕ) WireFault
port_at row = if_said (λ value. port_of (option_and_then as_u64 (as_number value))) (field (codes "port") row)

-- the authority of a row: its host with its port; a port without a host is ignored
unfoldable pub authority_at : Data → Result (Option Authority) WireFault
authority_at row = do
  host ← optional_text Filled 1024 (codes "host") row
  port ← port_at row
  Ok (option_map (λ name. record { host = name; port = port }) host)

-- the path rules of a row
unfoldable pub paths_at : Data → Result Paths WireFault
paths_at row = do
  literal ← optional_text Filled 1024 (codes "path") row
  prefix ← optional_text Filled 1024 (codes "pathPrefix") row
  suffix ← optional_text Filled 1024 (codes "pathSuffix") row
  pattern ← optional_text Filled 1024 (codes "pathPattern") row
  Ok (record { literal = literal; prefix = prefix; suffix = suffix; pattern = pattern })

-- the contents of a row
unfoldable pub row_of : Data → Result DataRow WireFault
row_of row = do
  scheme ← scheme_at row
  authority ← authority_at row
  paths ← paths_at row
  mime ← optional_mime Filled (codes "mimeType") row
  Ok (record { scheme = scheme; authority = authority; paths = paths; mime = mime })

-- the keys of a row
abbrev pub row_fields : List (List ℕ)
row_fields =
    codes "scheme" ∷ codes "host" ∷ codes "port" ∷ codes "path" ∷ codes "pathPrefix" ∷ codes "pathSuffix"
    ∷ codes "pathPattern"
    ∷ codes "mimeType" ∷ []

-- an entry of `data`
unfoldable pub row_in : Data → Result DataRow WireFault
row_in value = do
  known ← only_fields (codes "data") row_fields value
  row_of value

-- the rows of a filter, merged
unfoldable pub rows_at : Data → Result DataRows WireFault
rows_at filter = do
  values ← optional_list (codes "data") filter
  rows ← each row_in values
  Ok (fold with_row no_rows rows)

-- at least one value
unfoldable pub some_values : List Data → Result (List Data) WireFault
some_values [] = Err (WrongKind (codes "actions"))
some_values (first ∷ others) = Ok (first ∷ others)

-- the actions of a filter, sorted: at least one
unfoldable pub actions_at : Data → Result (List (List ℕ)) WireFault
actions_at filter = do
  value ← required (codes "actions") filter
  values ← list_in (codes "actions") value
  some ← some_values values
  texts ← texts_in Filled (codes "actions") some
  Ok (sorted_texts texts)

-- a whole number of 32 bits
unfoldable pub priority_of : Option ℤ → Result ℤ WireFault
priority_of None = Err (WrongKind (codes "priority"))
priority_of (Some n) =
    if int_lt n (negsuc 2147483647) then Err (WrongKind (codes "priority"))
    else if int_lt (pos 2147483647) n then Err (WrongKind (codes "priority"))
    else Ok n

-- an optional priority: 0 if absent
unfoldable pub priority_if_said : Option Data → Result ℤ WireFault
priority_if_said None = Ok (pos 0)
priority_if_said (Some value) = priority_of (option_and_then as_i64 (as_number value))

-- the priority of a filter
unfoldable pub priority_at : Data → Result ℤ WireFault
priority_at filter = priority_if_said (field (codes "priority") filter)

-- the contents of a filter
unfoldable pub filter_of : Data → Result Filter WireFault
filter_of filter = do
  actions ← actions_at filter
  categories ← categories_of Filled filter
  rows ← rows_at filter
  priority ← priority_at filter
  Ok (filter_with actions categories rows priority)

-- the fields of a filter
abbrev pub filter_fields : List (List ℕ)
filter_fields = codes "actions" ∷ codes "categories" ∷ codes "data" ∷ codes "priority" ∷ []

-- the filter that is the value of the field with this name
unfoldable pub filter_in : List ℕ → Data → Result Filter WireFault
filter_in name value = do
  known ← only_fields name filter_fields value
  filter_of value
