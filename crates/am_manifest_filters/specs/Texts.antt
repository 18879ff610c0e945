-- The texts of a manifest or a device file, and their places.
use Rattle.std.specs.Prelude.{ℕ, nat_lt, codes, List, ◌++◌, length, if◌then◌else◌, Option, Some, None, Result, Ok, Err}
use Rattle.std.specs.Fmt.{decimal}
use Rattle.am_types.specs.declared.manifest.ManifestFault.{ManifestFault}
use Rattle.am_types.specs.declared.manifest.ManifestFault.TheVariants.{WrongKind, OverLimit}
use Rattle.am_uri.specs.declared.text.Form.{Form}
use Rattle.am_uri.specs.Texts.{fits}
use Rattle.am_manifest_filters.specs.declared.place.Position.{Position}

-- a text of the form, of at most 1,024 bytes; `None` is a value that isn't a text
unfoldable pub text_in : Form → List ℕ → Option (List ℕ) → Result (List ℕ) ManifestFault
text_in form place None = Err (WrongKind place)
text_in form place (Some text) =
    if fits form text then (if nat_lt 1024 (length text) then Err (OverLimit (codes "text")) else Ok text)
    else Err (WrongKind place)

-- the place of a key of the table whose keys' places begin with `at`
abbrev pub key_place : List ℕ → List ℕ → List ℕ
key_place at key = at ++ key

-- the place of an entry of the array at a key
abbrev pub entry_place : List ℕ → List ℕ → ℕ → List ℕ
entry_place at key i = at ++ key ++ codes "[" ++ decimal i ++ codes "]"

-- what the places in a table that is an entry of the array at a key begin with
abbrev pub within_entry : List ℕ → List ℕ → ℕ → List ℕ
within_entry at key i = at ++ key ++ codes "[" ++ decimal i ++ codes "]."

-- what the places in the table at a key begin with
abbrev pub within_key : List ℕ → List ℕ → List ℕ
within_key at key = at ++ key ++ codes "."

-- the place that a position names
abbrev pub place_at : List ℕ → List ℕ → Option ℕ → List ℕ
place_at at key None = key_place at key
place_at at key (Some i) = entry_place at key i

abbrev pub place_of : Position → List ℕ
place_of position = place_at position.at.now position.key.now position.index
