-- The permissions granted to the packages of a device, and the hosts for which the packages are approved.
use Rattle.std.specs.Prelude.{ℕ, ◌+◌, nat_lt, codes, List, [], ◌∷◌, ◌++◌, length, map, replicate, slice_index_or, slice_set, if◌then◌else◌, Option, Some, None, option_and_then, Result, Ok, Err}
use Rattle.std.specs.Char.{to_ascii_lowercase}
use Rattle.std.specs.Str.{bytes_eq}
use Rattle.toml.specs.Data.{Data, get, as_str}
use Rattle.am_types.specs.declared.device.Package.{Package}
use Rattle.am_types.specs.declared.manifest.ManifestFault.{ManifestFault}
use Rattle.am_types.specs.declared.manifest.ManifestFault.TheVariants.{Missing, WrongKind, OverLimit}
use Rattle.am_manifest.specs.declared.rights.Right.{Right}
use Rattle.am_manifest.specs.declared.rights.Rights.{Rights}
use Rattle.am_types.specs.declared.device.RightKind.{RightKind}
use Rattle.am_types.specs.declared.device.RightKind.TheVariants.{Permission, Host}
use Rattle.am_uri.specs.declared.text.Form.TheVariants.{Filled}
use Rattle.am_types.specs.Reading.{◌>>=◌}
use Rattle.am_uri.specs.Texts.{is_among, with_text}
use Rattle.am_manifest_filters.specs.Texts.{key_place}
use Rattle.am_manifest_filters.specs.Tables.{required_text, optional_values, entry_table}

-- the key of the array of these rights
abbrev pub array_key : RightKind → List ℕ
array_key Permission = codes "grant"
array_key Host = codes "link"

-- the key of the text that an entry gives a right to
abbrev pub text_key : RightKind → List ℕ
text_key Permission = codes "permission"
text_key Host = codes "host"

-- the name of the limit on these rights
abbrev pub limit_name : RightKind → List ℕ
limit_name Permission = codes "grants"
limit_name Host = codes "links"

-- a host is kept in lower case (ASCII)
abbrev pub spelled : RightKind → List ℕ → List ℕ
spelled Permission text = text
spelled Host text = map to_ascii_lowercase text

-- the place of the first package with this name, if the first package has this place
abbrev pub place_among : List Package → ℕ → List ℕ → Option ℕ
place_among [] i name = None
place_among (p ∷ packages) i name =
    if bytes_eq p.name name then Some i else place_among packages (i + 1) name

-- rights per package: for each package a list of texts, sorted
abbrev pub texts_of : List (List (List ℕ)) → ℕ → List (List ℕ)
texts_of held holder = slice_index_or held holder []

-- one more text of a package, which has at most 256
unfoldable pub more_texts : RightKind → List (List ℕ) → List ℕ → Result (List (List ℕ)) ManifestFault
more_texts kind texts text =
    if is_among text texts then Ok texts
    else if nat_lt 255 (length texts) then Err (OverLimit (limit_name kind))
    else Ok (with_text texts text)

-- one more right of a package of the device
unfoldable pub right_put : RightKind → List (List (List ℕ)) → Right → Result (List (List (List ℕ))) ManifestFault
right_put kind held right = do
  more ← more_texts kind (texts_of held right.holder) right.text
  Ok (slice_set held right.holder more)

-- one more right; a right without a package changes nothing
unfoldable pub with_right : RightKind → List (List (List ℕ)) → Right → Result (List (List (List ℕ))) ManifestFault
with_right kind held right = if nat_lt right.holder (length held) then right_put kind held right else Ok held

-- the place of a package; `None` is one that isn't in the file
unfoldable pub holder_or : List ℕ → Option ℕ → Result ℕ ManifestFault
holder_or place None = Err (WrongKind place)
holder_or place (Some holder) = Ok holder

-- the readers of entries, which find a package's place by its name
module _ (place_of_name : List ℕ → Option ℕ) where
  unfoldable pub holder_in : List ℕ → Option Data → Result ℕ ManifestFault
  holder_in place None = Err (Missing place)
  holder_in place (Some value) = holder_or place (option_and_then place_of_name (as_str value))

  -- the package that an entry names
  unfoldable pub holder_at : List ℕ → Data → Result ℕ ManifestFault
  holder_at at value = holder_in (key_place at (codes "package")) (get (codes "package") value)

  -- a right
  unfoldable pub right_of : RightKind → List ℕ → Data → Result Right ManifestFault
  right_of kind at value = do
    holder ← holder_at at value
    text ← required_text Filled at (text_key kind) value
    Ok (record { holder = holder; text = spelled kind text })

  -- an entry of the rights
  unfoldable pub right_entry : RightKind → ℕ → Data → Result Right ManifestFault
  right_entry kind i value = do
    within ← entry_table [] (array_key kind) i value
    right_of kind within value

  -- the rights held, with those of the entries from this one on
  unfoldable pub rights_from : RightKind → List (List (List ℕ)) → ℕ → List Data
      → Result (List (List (List ℕ))) ManifestFault
  rights_from kind held i [] = Ok held
  rights_from kind held i (value ∷ values) = do
    right ← right_entry kind i value
    more ← with_right kind held right
    rights_from kind more (i + 1) values

-- the rights of one kind, per package
unfoldable pub rights_of : RightKind → List Package → Data → Result (List (List (List ℕ))) ManifestFault
rights_of kind packages value = do
  values ← optional_values [] (array_key kind) value
  rights_from (place_among packages 0) kind (replicate (length packages) []) 0 values

-- each right with the uid of its package
abbrev pub with_uids : List Package → List (List (List ℕ)) → List (ℕ × List ℕ)
with_uids [] held = []
with_uids (p ∷ packages) [] = []
with_uids (p ∷ packages) (texts ∷ held) = map (λ text. (p.uid, text)) texts ++ with_uids packages held

-- the rights of one kind, each with the uid of its package
abbrev pub rights_given : RightKind → List Package → Data → Result (List (ℕ × List ℕ)) ManifestFault
rights_given kind packages value = do
  held ← rights_of kind packages value
  Ok (with_uids packages held)

-- the permissions granted to the packages, and the hosts for which the packages are approved
unfoldable pub rights_in : List Package → Data → Result Rights ManifestFault
rights_in packages value = do
  granted ← rights_of Permission packages value
  approved ← rights_of Host packages value
  Ok (record {
    grants = map (λ r. record { uid = r.0; permission = r.1 }) (with_uids packages granted);
    links = map
        (λ r. record { uid = r.0; host = r.1 }) (with_uids packages approved);
  })
