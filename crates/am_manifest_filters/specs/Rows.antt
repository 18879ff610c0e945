-- The data rows of a filter.
use Rattle.std.specs.Prelude.{ℕ, ℤ, pos, negsuc, Bool, nat_lt, codes, List, [], ◌∷◌, length, fold, if◌then◌else◌, Option, Some, None, option_map, Result, Ok, Err}
use Rattle.std.specs.List.{list_any}
use Rattle.std.specs.Str.{bytes_eq}
use Rattle.toml.specs.Data.{Data, get, as_integer}
use Rattle.am_types.specs.declared.filter.Authority.{Authority}
use Rattle.am_types.specs.declared.uri.Mime.{Mime}
use Rattle.am_types.specs.declared.uri.MimeFault.{MimeFault}
use Rattle.am_types.specs.declared.manifest.ManifestFault.{ManifestFault}
use Rattle.am_types.specs.declared.manifest.ManifestFault.TheVariants.{WrongKind, BadUri, BadMime, OverLimit}
use Rattle.am_filter.specs.declared.rows.Paths.{Paths}
use Rattle.am_filter.specs.declared.rows.DataRow.{DataRow}
use Rattle.am_filter.specs.declared.rows.DataRows.{DataRows}
use Rattle.am_uri.specs.declared.text.Form.TheVariants.{Filled}
use Rattle.am_types.specs.Reading.{◌>>=◌}
use Rattle.am_model.specs.Uris.{is_scheme}
use Rattle.am_model.specs.MimeTypes.{mime_of}
use Rattle.am_manifest_filters.specs.Texts.{key_place}
use Rattle.am_filter.specs.Rows.{with_row, no_rows}
use Rattle.am_manifest_filters.specs.Tables.{optional_text, optional_values, at_most, each, entry_table, only_keys}

-- a scheme, unless it isn't valid
unfoldable pub scheme_in : List ℕ → Option (List ℕ) → Result (Option (List ℕ)) ManifestFault
scheme_in place None = Ok None
scheme_in place (Some text) = if is_scheme text then Ok (Some text) else Err (BadUri place)

-- the scheme of a row
unfoldable pub scheme_at : List ℕ → Data → Result (Option (List ℕ)) ManifestFault
scheme_at at value = do
  text ← optional_text Filled at (codes "scheme") value
  scheme_in (key_place at (codes "scheme")) text

-- a type, unless a text isn't a valid one
unfoldable pub mime_or : List ℕ → Result Mime MimeFault → Result (Option Mime) ManifestFault
mime_or place (Ok mime) = Ok (Some mime)
mime_or place (Err fault) = Err (BadMime place)

-- an optional type
unfoldable pub mime_in : List ℕ → Option (List ℕ) → Result (Option Mime) ManifestFault
mime_in place None = Ok None
mime_in place (Some text) = mime_or place (mime_of text)

-- the type of a row
unfoldable pub mime_at : List ℕ → Data → Result (Option Mime) ManifestFault
mime_at at value = do
  text ← optional_text Filled at (codes "mimeType") value
  mime_in (key_place at (codes "mimeType")) text

-- a whole number from 0 to 99,999
unfoldable pub port_in : List ℕ → Option ℤ → Result (Option ℕ) ManifestFault
port_in place None = Err (WrongKind place)
port_in place (Some (pos number)) = if nat_lt 99999 number then Err (WrongKind place) else Ok (Some number)
port_in place (Some (negsuc number)) = Err (WrongKind place)

-- an optional port
unfoldable pub optional_port_in : List ℕ → Option Data → Result (Option ℕ) ManifestFault
optional_port_in place None = Ok None
optional_port_in place (Some value) = port_in place (as_integer value)

-- the port of a row
unfoldable pub port_at : List ℕ → Data → Result (Option ℕ) ManifestFault
port_at at value = optional_port_in (key_place at (codes "port")) (get (codes "port") value)

-- the authority of a row: its host with its port; a port without a host is ignored
unfoldable pub authority_at : List ℕ → Data → Result (Option Authority) ManifestFault
authority_at at value = do
  host ← optional_text Filled at (codes "host") value
  port ← port_at at value
  Ok (option_map (λ name. record { host = name; port = port }) host)

-- a pattern, which has at most 1,024 bytes
unfoldable pub pattern_in : Option (List ℕ) → Result (Option (List ℕ)) ManifestFault
pattern_in None = Ok None
pattern_in (Some text) = if nat_lt 1024 (length text) then Err (OverLimit (codes "text")) else Ok (Some text)

-- the pattern of a row
unfoldable pub pattern_at : List ℕ → Data → Result (Option (List ℕ)) ManifestFault
pattern_at at value = do
  text ← optional_text Filled at (codes "pathPattern") value
  pattern_in text

-- the path rules of a row
unfoldable pub paths_at : List ℕ → Data → Result Paths ManifestFault
paths_at at value = do
  literal ← optional_text Filled at (codes "path") value
  prefix ← optional_text Filled at (codes "pathPrefix") value
  suffix ← optional_text Filled at (codes "pathSuffix") value
  pattern ← pattern_at at value
  Ok (record { literal = literal; prefix = prefix; suffix = suffix; pattern = pattern })

-- a data row
unfoldable pub row_of : List ℕ → Data → Result DataRow ManifestFault
row_of at value = do
  scheme ← scheme_at at value
  authority ← authority_at at value
  paths ← paths_at at value
  mime ← mime_at at value
  Ok (record { scheme = scheme; authority = authority; paths = paths; mime = mime })

-- a key that a row may have
abbrev pub is_row_key : List ℕ → Bool
is_row_key key =
    list_any (bytes_eq key) (codes "scheme" ∷ codes "host" ∷ codes "port" ∷ codes "path" ∷ codes "pathPrefix"
    ∷ codes "pathSuffix" ∷ codes "pathPattern" ∷ codes "mimeType" ∷ [])

-- an entry of the data rows of a filter
unfoldable pub row_entry : List ℕ → ℕ → Data → Result DataRow ManifestFault
row_entry at i value = do
  within ← entry_table at (codes "data") i value
  known ← only_keys is_row_key within value
  row_of within value

-- the data rows of a filter, of which there are at most 64, merged
unfoldable pub rows_at : List ℕ → Data → Result DataRows ManifestFault
rows_at at value = do
  values ← optional_values at (codes "data") value
  few ← at_most 64 (codes "list") (length values)
  rows ← each (row_entry at) 0 values
  Ok (fold with_row no_rows rows)
