-- A name that no package has, and a key that no caller has.
use Rattle.std.proofs.Common.{◌≡◌, ℕ, false, ◌||◌, List, [], ◌∷◌, ◌++◌}
use Rattle.std.specs.Prelude.{Option, Some, None}
use Rattle.std.specs.List.{list_any}
use Rattle.am_types.specs.declared.device.Package.{Package}
use Rattle.am_model.specs.Sound.{keys_of, names_of, owner_keys}
use Rattle.am_model.specs.Texts.{is_same}
use Rattle.am_history.specs.Packages.{is_root_key, is_name_used}
use Rattle.am_laws_state.proofs.SoundPackages.{IsFree}
use Rattle.am_laws.proofs.Tests.{neither}

-- a name that no package has
pub name_is_free : (name : List ℕ) (packages : List Package) → is_name_used packages name ≡ false
    → IsFree name (names_of packages)
name_is_free name [] unused = tt
name_is_free name (first ∷ others) unused =
    let both = neither (is_same first.name name) (is_name_used others name) unused in
    (both.0, name_is_free name others both.1)

-- a key that no package has
package_key_is_free : (key : List ℕ) (packages : List Package) → list_any (λ (p : Package). is_same p.key key) packages
    ≡ false → IsFree key (keys_of packages)
package_key_is_free key [] unused = tt
package_key_is_free key (first ∷ others) unused =
    let both = neither (is_same first.key key) (list_any (λ (p : Package). is_same p.key key) others) unused in
    (both.0, package_key_is_free key others both.1)

-- a key that no caller has
pub key_is_free : (system_key : List ℕ) (root_key : Option (List ℕ)) (key : List ℕ) (packages : List Package)
    → (is_same system_key key || is_root_key root_key key) || list_any (λ (p : Package). is_same p.key key) packages
    ≡ false
    → IsFree key (owner_keys system_key root_key ++ keys_of packages)
key_is_free system_key None key packages unused =
    let both = neither (is_same system_key key || false) (list_any (λ (p : Package). is_same p.key key) packages) unused
    in
    ((neither (is_same system_key key) false both.0).0, package_key_is_free key packages both.1)
key_is_free system_key (Some root) key packages unused =
    let both = neither (is_same system_key key || is_same root key)
    (list_any (λ (p : Package). is_same p.key key) packages) unused in
    let owners = neither (is_same system_key key) (is_same root key) both.0 in
    (owners.0, (owners.1, package_key_is_free key packages both.1))
