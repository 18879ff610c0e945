-- When a device is sound: what reading a device file gives, and what opening one requires.
use Rattle.std.specs.Prelude.{ℕ, ◌≤◌, Bool, false, not, ◌&&◌, ◌==◌, nat_le, nat_lt, codes, List, [], ◌∷◌, ◌++◌, length, map, All, count_by, if◌then◌else◌, Option, Some, None, IsTrue}
use Rattle.std.specs.List.{list_any, list_all, IsDistinct}
use Rattle.std.specs.List.Sorted.{IsStrictlyIncreasing, IsStrictlySortedBy}
use Rattle.std.specs.Ordering.{nat_cmp, ordering_then}
use Rattle.std.specs.declared.cmp.Ordering.{Ordering}
use Rattle.std.specs.Cmp.Lexicographic.{slice_cmp}
use Rattle.am_types.specs.declared.filter.Filter.{Filter}
use Rattle.am_types.specs.declared.manifest.Decl.{Decl}
use Rattle.am_types.specs.declared.device.Device.{Device}
use Rattle.am_types.specs.declared.device.Grant.{Grant}
use Rattle.am_types.specs.declared.device.Link.{Link}
use Rattle.am_types.specs.declared.device.Package.{Package}
use Rattle.am_model.specs.Texts.{is_same}
use Rattle.am_model.specs.Boards.{is_package_uid}

-- some byte is a slash
abbrev pub has_slash : List ℕ → Bool
has_slash text = list_any (λ b. b == 47) text

-- not empty, and without a slash
abbrev pub is_name : List ℕ → Bool
is_name text = if length text == 0 then false else not (has_slash text)

-- the first byte is a dot
abbrev pub starts_with_dot : List ℕ → Bool
starts_with_dot [] = false
starts_with_dot (b ∷ bytes) = b == 46

-- a name that does not start with a dot
abbrev pub is_package_name : List ℕ → Bool
is_package_name text = if starts_with_dot text then false else is_name text

-- each byte is a visible ASCII character
abbrev pub is_visible : List ℕ → Bool
is_visible text = list_all (λ b. nat_le 33 b && nat_le b 126) text

-- 1 to 255 visible ASCII characters
abbrev pub is_access_key : List ℕ → Bool
is_access_key text = if length text == 0 then false else if nat_lt 255 (length text) then false else is_visible text

-- no text is listed twice
abbrev pub AreDistinct : List (List ℕ) → Type 0
AreDistinct texts = IsDistinct is_same texts

-- what a filter lists is within its limits
pub record IsSoundFilter (f : Filter) : Type 0 where
  pub actions : length f.actions ≤ 64
  pub categories : length f.categories ≤ 64
  pub schemes : length f.schemes ≤ 64
  pub authorities : length f.authorities ≤ 64
  pub paths : length f.paths ≤ 256
  pub types : length f.types ≤ 64

-- a component has at most 32 filters
pub record IsSoundDecl (decl : Decl) : Type 0 where
  pub few : length decl.filters ≤ 32
  pub filters : All IsSoundFilter decl.filters

-- the classes of components
abbrev pub classes_of : List Decl → List (List ℕ)
classes_of decls = map (λ decl. decl.class) decls

-- a package has a uid, a name and a key of the right form, and at most 256 components of distinct classes
pub record IsSoundPackage (p : Package) : Type 0 where
  pub lowest : 10000 ≤ p.uid
  pub greatest : p.uid ≤ 4294967294
  pub name : IsTrue (is_package_name p.name)
  pub key : IsTrue (is_access_key p.key)
  pub few : length p.decls ≤ 256
  pub classes : AreDistinct (classes_of p.decls)
  pub decls : All IsSoundDecl p.decls

-- the uids of packages
abbrev pub uids_of : List Package → List ℕ
uids_of packages = map (λ (p : Package). p.uid) packages

-- the names of packages
abbrev pub names_of : List Package → List (List ℕ)
names_of packages = map (λ (p : Package). p.name) packages

-- the keys of packages
abbrev pub keys_of : List Package → List (List ℕ)
keys_of packages = map (λ (p : Package). p.key) packages

-- at most 256 packages, in rising order of their uids
pub record AreSoundPackages (packages : List Package) : Type 0 where
  pub few : length packages ≤ 256
  pub each : All IsSoundPackage packages
  pub rising : IsStrictlyIncreasing (uids_of packages)

-- the order of rights, which are a uid and a text each: by uid, then by the bytes of the text
abbrev pub right_cmp : ℕ × List ℕ → ℕ × List ℕ → Ordering
right_cmp first second = ordering_then (nat_cmp first.0 second.0) (slice_cmp nat_cmp first.1 second.1)

-- the rights of packages are in their order, each once, and no package has more than 256
pub record AreSoundRights (packages : List Package) (rights : List (ℕ × List ℕ)) : Type 0 where
  pub order : IsStrictlySortedBy right_cmp rights
  pub holders : All (λ right. IsTrue (is_package_uid packages right.0)) rights
  pub few : (uid : ℕ) → count_by (λ right. right.0 == uid) rights ≤ 256

-- grants as rights
abbrev pub rights_granted : List Grant → List (ℕ × List ℕ)
rights_granted grants = map (λ (g : Grant). (g.uid, g.permission)) grants

-- links as rights
abbrev pub rights_approved : List Link → List (ℕ × List ℕ)
rights_approved links = map (λ (l : Link). (l.uid, l.host)) links

-- the keys of the system and of the root, if it has one
abbrev pub owner_keys : List ℕ → Option (List ℕ) → List (List ℕ)
owner_keys system_key None = system_key ∷ []
owner_keys system_key (Some root_key) = system_key ∷ root_key ∷ []

-- the device is sound: its packages and rights are, no two packages have the same name and none has the system's, and
-- no two callers have the same key
pub record IsSound (device : Device) : Type 0 where
  pub packages : AreSoundPackages device.packages
  pub names : AreDistinct (codes "android" ∷ names_of device.packages)
  pub owners : All (λ key. IsTrue (is_access_key key)) (owner_keys device.system_key device.root_key)
  pub keys : AreDistinct (owner_keys device.system_key device.root_key ++ keys_of device.packages)
  pub grants : AreSoundRights device.packages (rights_granted device.grants)
  pub links : AreSoundRights device.packages (rights_approved device.links)
