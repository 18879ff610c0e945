-- The manifest of a package.
use Rattle.std.specs.Prelude.{◌≡◌, ℕ, ◌≤◌, false, codes, List, [], ◌∷◌, length, map, All, if◌then◌else◌, Option, Some, None, Result, Ok, Err, ◌++◌, IsTrue}
use Rattle.std.specs.Str.{bytes_eq}
use Rattle.toml.specs.Data.{Data, Members, table}
use Rattle.toml.specs.Parse.{parse_document}
use Rattle.am_types.specs.Bounds.{longest_manifest}
use Rattle.am_types.specs.declared.manifest.Decl.{Decl}
use Rattle.am_types.specs.declared.manifest.Kind.TheVariants.{Activity, Service, Receiver}
use Rattle.am_types.specs.declared.manifest.Manifest.{Manifest}
use Rattle.am_types.specs.declared.manifest.ManifestFault.{ManifestFault}
use Rattle.am_types.specs.declared.manifest.ManifestFault.TheVariants.{NotToml, Duplicate}
use Rattle.am_model.specs.Sound.{AreDistinct, IsSoundDecl, classes_of, is_package_name}
use Rattle.am_model.specs.Texts.{is_same}
use Rattle.am_uri.specs.declared.text.Form.TheVariants.{PackageName}
use Rattle.am_types.specs.Reading.{◌>>=◌}
use Rattle.am_uri.specs.Texts.{is_among}
use Rattle.am_manifest_filters.specs.Tables.{required_text, at_most}
use Rattle.am_manifest.specs.Components.{components_at}

-- the first text that occurs again later
abbrev pub first_repeated : List (List ℕ) → Option (List ℕ)
first_repeated [] = None
first_repeated (text ∷ texts) = if is_among text texts then Some text else first_repeated texts

-- the classes of components
abbrev pub classes : List Decl → List (List ℕ)
classes decls = map (λ d. d.class) decls

-- a manifest, unless this is a class that occurs twice
unfoldable pub unless_repeated : Manifest → Option (List ℕ) → Result Manifest ManifestFault
unless_repeated manifest None = Ok manifest
unless_repeated manifest (Some class) = Err (Duplicate class)

-- a manifest of at most 256 components of distinct classes
unfoldable pub manifest_made : List ℕ → List Decl → Result Manifest ManifestFault
manifest_made «package» decls = do
  few ← at_most 256 (codes "components") (length decls)
  unless_repeated (record { «package» = «package»; decls = decls }) (first_repeated (classes decls))

-- the components of a package: activities, then services, then receivers
unfoldable pub decls_in : List ℕ → List ℕ → Data → Result (List Decl) ManifestFault
decls_in «package» at value = do
  activities ← components_at Activity «package» at (codes "activity") value
  services ← components_at Service «package» at (codes "service") value
  receivers ← components_at Receiver «package» at (codes "receiver") value
  Ok (activities ++ services ++ receivers)

-- the manifest in a table
unfoldable pub manifest_in : List ℕ → Data → Result Manifest ManifestFault
manifest_in at value = do
  name ← required_text PackageName at (codes "package") value
  decls ← decls_in name at value
  manifest_made name decls

-- a manifest read by itself, which may not be that of the system's package
unfoldable pub manifest_alone : Data → Result Manifest ManifestFault
manifest_alone value = do
  manifest ← manifest_in [] value
  if bytes_eq manifest.«package» (codes "android") then Err (Duplicate (codes "android")) else Ok manifest

-- the table that a document is; `None` is a text that isn't a TOML document
unfoldable pub root_of : Option Members → Result Data ManifestFault
root_of None = Err NotToml
root_of (Some members) = Ok (table members)

-- the manifest that a text contains, or the first fault
unfoldable pub manifest_of : List ℕ → Result Manifest ManifestFault
manifest_of text = do
  short ← at_most longest_manifest (codes "text") (length text)
  root ← root_of (parse_document text)
  manifest_alone root

-- a manifest is sound: its package has a name of the right form, and at most 256 components of distinct classes
pub record IsSoundManifest (m : Manifest) : Type 0 where
  pub name : IsTrue (is_package_name m.«package»)
  pub few : length m.decls ≤ 256
  pub classes : AreDistinct (classes_of m.decls)
  pub decls : All IsSoundDecl m.decls

-- a manifest may be an app's: it is sound, and isn't the manifest of the system's package
pub record IsAppManifest (m : Manifest) : Type 0 where
  pub sound : IsSoundManifest m
  pub other : is_same (codes "android") m.«package» ≡ false
