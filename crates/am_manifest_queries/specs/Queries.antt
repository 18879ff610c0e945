-- What the packages of a device ask to see.
use Rattle.std.specs.Prelude.{ℕ, codes, List, [], length, is_some, if◌then◌else◌, Option, Some, None, option_and_then, Result, Ok, Err}
use Rattle.toml.specs.Data.{Data, get, as_table}
use Rattle.toml.specs.Parse.{parse_document}
use Rattle.am_types.specs.declared.manifest.ManifestFault.{ManifestFault}
use Rattle.am_types.specs.declared.manifest.ManifestFault.TheVariants.{WrongKind}
use Rattle.am_types.specs.declared.visible.Signature.{Signature}
use Rattle.am_types.specs.declared.visible.Queries.{Queries}
use Rattle.am_uri.specs.declared.text.Form.TheVariants.{PackageName}
use Rattle.am_types.specs.Reading.{◌>>=◌}
use Rattle.am_manifest_filters.specs.Texts.{key_place, within_key}
use Rattle.am_manifest_filters.specs.Tables.{optional_values, at_most, each, entry_table, texts_at}
use Rattle.am_manifest.specs.Manifests.{root_of}
use Rattle.am_manifest.specs.Devices.{device_of, text_of}
use Rattle.am_manifest_queries.specs.Signatures.{signature_of}
use Rattle.am_manifest_queries.specs.declared.device.Described.{Described}

-- an entry of the queried intents
unfoldable pub signature_entry : List ℕ → ℕ → Data → Result Signature ManifestFault
signature_entry at i value = do
  within ← entry_table at (codes "intent") i value
  signature_of within value

-- the queried intents, of which there are at most 64
unfoldable pub signatures_at : List ℕ → Data → Result (List Signature) ManifestFault
signatures_at at value = do
  values ← optional_values at (codes "intent") value
  few ← at_most 64 (codes "list") (length values)
  each (signature_entry at) 0 values

-- the queries in their table: at most 64 names of packages, which need not be installed, and the intents
unfoldable pub queries_table : List ℕ → Data → Result Queries ManifestFault
queries_table at value = do
  names ← texts_at PackageName at (codes "package") 64 value
  signatures ← signatures_at at value
  Ok (record { names = names; signatures = signatures })

-- a manifest without queries asks for nothing
abbrev pub no_queries : Queries
no_queries = record { names = []; signatures = [] }

-- the queries of a manifest, if it has any, at its key `queries`
unfoldable pub queries_in : List ℕ → Option Data → Result Queries ManifestFault
queries_in at None = Ok no_queries
queries_in at (Some value) =
    if is_some (as_table value) then queries_table (within_key at (codes "queries")) value
    else Err (WrongKind (key_place at (codes "queries")))

-- the queries of a package that is an entry of the packages
unfoldable pub package_queries : ℕ → Data → Result Queries ManifestFault
package_queries i value = do
  within ← entry_table [] (codes "package") i value
  queries_in (within_key within (codes "manifest"))
      (option_and_then (get (codes "queries")) (get (codes "manifest") value))

-- the queries of each package, in the order of the packages
unfoldable pub all_queries : Data → Result (List Queries) ManifestFault
all_queries root = do
  values ← optional_values [] (codes "package") root
  each package_queries 0 values

-- the queries of a text that is a TOML document
unfoldable pub text_queries : List ℕ → Result (List Queries) ManifestFault
text_queries bytes = do
  text ← text_of bytes
  root ← root_of (parse_document text)
  all_queries root

-- the device that the bytes of a file describe, and the queries of its packages; the faults of the device come first
unfoldable pub described : List ℕ → Result Described ManifestFault
described bytes = do
  device ← device_of bytes
  queries ← text_queries bytes
  Ok (record { device = device; queries = queries })

-- the queries of the packages of the device that the bytes of a file describe
unfoldable pub queries_of : List ℕ → Result (List Queries) ManifestFault
queries_of bytes = do
  known ← described bytes
  Ok known.queries
