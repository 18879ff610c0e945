-- The device that a file describes.
use Rattle.std.specs.Prelude.{ℕ, ◌+◌, Bool, true, false, codes, List, [], ◌∷◌, length, is_some, if◌then◌else◌, Option, Some, None, Result, Ok, Err}
use Rattle.std.specs.Str.{bytes_eq, is_utf8}
use Rattle.std.specs.Option.{option_and_then}
use Rattle.toml.specs.Data.{Data, get, as_str, as_table}
use Rattle.toml.specs.Parse.{parse_document}
use Rattle.am_types.specs.declared.device.Device.{Device}
use Rattle.am_types.specs.declared.device.Package.{Package}
use Rattle.am_types.specs.declared.device.Rules.{Rules}
use Rattle.am_types.specs.declared.device.Rules.TheVariants.{Profile, Android12}
use Rattle.am_types.specs.declared.manifest.Manifest.{Manifest}
use Rattle.am_types.specs.declared.manifest.ManifestFault.{ManifestFault}
use Rattle.am_types.specs.declared.manifest.ManifestFault.TheVariants.{NotToml, Missing, WrongKind, Duplicate}
use Rattle.am_manifest.specs.declared.device.Owners.{Owners}
use Rattle.am_manifest.specs.declared.rights.Rights.{Rights}
use Rattle.am_uri.specs.declared.text.Form.TheVariants.{AccessKey, Filled, PackageName}
use Rattle.am_types.specs.Reading.{◌>>=◌}
use Rattle.am_uri.specs.Texts.{is_among, with_text, with_optional}
use Rattle.am_manifest_filters.specs.Texts.{key_place, within_key}
use Rattle.am_manifest_filters.specs.Tables.{required_text, optional_text, optional_values, texts_at, at_most, each, entry_table}
use Rattle.am_manifest.specs.Rights.{rights_in}
use Rattle.am_manifest.specs.Manifests.{root_of, manifest_in}

-- the manifest of a package
unfoldable pub manifest_found : List ℕ → Option Data → Result Manifest ManifestFault
manifest_found at None = Err (Missing (key_place at (codes "manifest")))
manifest_found at (Some value) =
    if is_some (as_table value) then manifest_in (within_key at (codes "manifest")) value
    else Err (WrongKind (key_place at (codes "manifest")))

-- the manifest at its key in a package's table
unfoldable pub manifest_at : List ℕ → Data → Result Manifest ManifestFault
manifest_at at value = manifest_found at (get (codes "manifest") value)

-- a package that gets this uid
unfoldable pub package_of : ℕ → List ℕ → Data → Result Package ManifestFault
package_of uid at value = do
  key ← required_text AccessKey at (codes "key") value
  manifest ← manifest_at at value
  Ok (record { uid = uid; name = manifest.«package»; key = key; stopped = false; decls = manifest.decls })

-- an entry of the packages: the first gets uid 10,000, each other one more than the previous one
unfoldable pub package_entry : ℕ → Data → Result Package ManifestFault
package_entry i value = do
  within ← entry_table [] (codes "package") i value
  package_of (10000 + i) within value

-- the packages of a device
unfoldable pub packages_in : Data → Result (List Package) ManifestFault
packages_in value = do
  values ← optional_values [] (codes "package") value
  few ← at_most 256 (codes "packages") (length values)
  each package_entry 0 values

-- the name or the key of a package is among these
abbrev pub is_taken : List (List ℕ) → List (List ℕ) → Package → Bool
is_taken names keys p = if is_among p.name names then true else is_among p.key keys

-- the name of the first package whose name or key was taken by an earlier one
abbrev pub first_taken : List (List ℕ) → List (List ℕ) → List Package → Option (List ℕ)
first_taken names keys [] = None
first_taken names keys (p ∷ packages) =
    if is_taken names keys p then Some p.name
    else first_taken (with_text names p.name) (with_text keys p.key) packages

-- the packages, unless this is the name of one whose name or key is taken
unfoldable pub unless_taken : List Package → Option (List ℕ) → Result (List Package) ManifestFault
unless_taken packages None = Ok packages
unless_taken packages (Some name) = Err (Duplicate name)

-- the root has the key of the system
abbrev pub shares_key : Owners → Option (List ℕ) → Bool
shares_key owners None = false
shares_key owners (Some key) = bytes_eq key owners.system_key

-- the root has a key of its own
unfoldable pub roots_apart : Owners → Result (Unit {0}) ManifestFault
roots_apart owners = if shares_key owners owners.root_key then Err (Duplicate (codes "root_key")) else Ok tt

-- the keys of the system and of the root
abbrev pub known_keys : Owners → List (List ℕ)
known_keys owners = with_optional (with_text [] owners.system_key) owners.root_key

-- the packages, whose names and keys are distinct, also from those of the system and of the root
unfoldable pub apart : Owners → List Package → Result (List Package) ManifestFault
apart owners packages = do
  root ← roots_apart owners
  unless_taken packages (first_taken (codes "android" ∷ []) (known_keys owners) packages)

-- the rules with this name
abbrev pub rules_named : List ℕ → Option Rules
rules_named word =
    if bytes_eq word (codes "profile") then Some Profile
    else if bytes_eq word (codes "android-12") then Some Android12
    else None

-- rules; `None` is a value that isn't a text, or a word that isn't a name of rules
unfoldable pub rules_or : List ℕ → Option Rules → Result Rules ManifestFault
rules_or place None = Err (WrongKind place)
rules_or place (Some rules) = Ok rules

-- the rules that are named, or the profile's
unfoldable pub rules_in : List ℕ → Option Data → Result Rules ManifestFault
rules_in place None = Ok Profile
rules_in place (Some value) = rules_or place (option_and_then rules_named (as_str value))

-- by whose rules a device answers
unfoldable pub rules_at : Data → Result Rules ManifestFault
rules_at value = rules_in (key_place [] (codes "rules")) (get (codes "rules") value)

-- by whose rules a device answers, the keys of the system and of the root, and the browser
unfoldable pub owners_in : Data → Result Owners ManifestFault
owners_in value = do
  rules ← rules_at value
  system_key ← required_text AccessKey [] (codes "system_key") value
  root_key ← optional_text AccessKey [] (codes "root_key") value
  browser ← optional_text PackageName [] (codes "browser") value
  Ok (record { rules = rules; system_key = system_key; root_key = root_key; browser = browser })

-- a device assembled from these parts
abbrev pub device_made : Owners → List (List ℕ) → List (List ℕ) → List Package → Rights → Device
device_made owners «protected» exempt packages rights = record {
  rules = owners.rules;
  system_key = owners.system_key;
  root_key = owners.root_key;
  browser = owners.browser;
  «protected» = «protected»;
  exempt = exempt;
  packages = packages;
  grants = rights.grants;
  links = rights.links;
}

-- the packages of a device, with distinct names and keys
unfoldable pub packages_apart : Owners → Data → Result (List Package) ManifestFault
packages_apart owners value = do
  packages ← packages_in value
  apart owners packages

-- the device in a table
unfoldable pub device_in : Data → Result Device ManifestFault
device_in value = do
  owners ← owners_in value
  «protected» ← texts_at Filled [] (codes "protected") 1024 value
  exempt ← texts_at Filled [] (codes "exempt") 1024 value
  packages ← packages_apart owners value
  rights ← rights_in packages value
  Ok (device_made owners «protected» exempt packages rights)

-- the bytes, if they are UTF-8
unfoldable pub text_of : List ℕ → Result (List ℕ) ManifestFault
text_of bytes = if is_utf8 bytes then Ok bytes else Err NotToml

-- the device that the bytes of a file describe, or the first fault
unfoldable pub device_of : List ℕ → Result Device ManifestFault
device_of bytes = do
  small ← at_most 16777216 (codes "device") (length bytes)
  text ← text_of bytes
  root ← root_of (parse_document text)
  device_in root
