-- The intents that the queries of a manifest ask for. The places of a table's keys begin with `at`.
use Rattle.std.specs.Prelude.{ℕ, Bool, codes, List, [], ◌∷◌, Result, Ok}
use Rattle.std.specs.List.{list_any}
use Rattle.std.specs.Str.{bytes_eq}
use Rattle.toml.specs.Data.{Data as TomlData}
use Rattle.am_types.specs.declared.manifest.ManifestFault.{ManifestFault}
use Rattle.am_types.specs.declared.visible.Signature.{Signature}
use Rattle.am_uri.specs.declared.text.Form.TheVariants.{Filled}
use Rattle.am_types.specs.Reading.{◌>>=◌}
use Rattle.am_manifest_filters.specs.Rows.{scheme_at, mime_at}
use Rattle.am_manifest_filters.specs.Tables.{required_text, optional_text, only_keys, texts_at}
use Rattle.am_manifest_queries.specs.declared.signature.Names.{Names}
use Rattle.am_manifest_queries.specs.declared.signature.Data.{Data}

-- a key that an intent may have
abbrev pub is_signature_key : List ℕ → Bool
is_signature_key key =
    list_any (bytes_eq key)
    (codes "action" ∷ codes "category" ∷ codes "scheme" ∷ codes "host" ∷ codes "mimeType" ∷ [])

-- the action and the categories, of which there are at most 64
unfoldable pub names_of : List ℕ → TomlData → Result Names ManifestFault
names_of at value = do
  action ← required_text Filled at (codes "action") value
  categories ← texts_at Filled at (codes "category") 64 value
  Ok (record { action = action; categories = categories })

-- the scheme, the host and the type, each if it is present
unfoldable pub data_of : List ℕ → TomlData → Result Data ManifestFault
data_of at value = do
  scheme ← scheme_at at value
  host ← optional_text Filled at (codes "host") value
  mime ← mime_at at value
  Ok (record { scheme = scheme; host = host; mime = mime })

-- the intent that a table queries
unfoldable pub signature_of : List ℕ → TomlData → Result Signature ManifestFault
signature_of at value = do
  known ← only_keys is_signature_key at value
  names ← names_of at value
  asked ← data_of at value
  Ok (record {
    action = names.action;
    categories = names.categories;
    scheme = asked.scheme;
    host = asked.host;
    mime = asked.mime;
  })
