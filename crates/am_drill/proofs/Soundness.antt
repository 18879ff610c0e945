-- The generated device is sound.
use Rattle.std.proofs.Common.{◌≡◌, ℕ, zero, suc, ◌+◌, ◌*◌, ◌<◌, ◌≤◌, ◌==◌, Bool, true, false, not, nat_lt, List, [], ◌∷◌, ◌++◌, length, map, codes, decimal, get_or, refl, sym, ap, subst, ◌∙◌, arith, IsTrue}
use Rattle.std.specs.Prelude.{ℤ, if◌then◌else◌}
use Rattle.std.specs.Cmp.Lexicographic.{same_text}
use Rattle.std.specs.List.{All, IsDistinct, range_with_len}
use Rattle.std.specs.List.Sorted.{IsStrictlyIncreasing, IsStrictlySortedBy}
use Rattle.std.proofs.lemmas.Fmt.{length-decimal-le}
use Rattle.std.proofs.lemmas.List.{append_cancel_left}
use Rattle.std.proofs.lemmas.List.Elements.{All-cons, All-nil}
use Rattle.std.proofs.lemmas.List.FromFn.{get_or-map-range_with_len, length-map-range_with_len}
use Rattle.am_types.specs.declared.device.Package.{Package}
use Rattle.am_types.specs.declared.filter.Filter.{Filter}
use Rattle.am_types.specs.declared.manifest.Decl.{Decl}
use Rattle.am_model.specs.Plain.{filter_for}
use Rattle.am_model.specs.Sound.{has_slash, AreDistinct, AreSoundPackages, AreSoundRights, IsSound, IsSoundDecl, IsSoundFilter, IsSoundPackage, is_access_key, is_package_name, is_visible, names_of, keys_of, uids_of}
use Rattle.am_model.specs.Texts.{is_same}
use Rattle.am_drill.specs.Draws.{after}
use Rattle.am_drill.specs.Devices.{activity_of, device_of, key_of, name_of, package_of, packages_of, receiver_of}
use Rattle.am_drill.proofs.Decimals.{apart_from, digits_are_visible, digits_have_no_slash, numbered_apart}

-- a text with a first byte isn't empty
not_empty : (n : ℕ) → (suc n == 0) ≡ false
not_empty n = grind arith

-- a name of a package
name_is_one : (i : ℕ) → i < 256 → is_package_name (name_of i) ≡ true
name_is_one i small =
    ap (λ b. if b then false else not (has_slash (name_of i))) (not_empty (suc (length (decimal i))))
    ∙ ap not (digits_have_no_slash i (omega arith))

-- a key isn't too long
short_key : (n : ℕ) → n ≤ 3 → nat_lt 255 (suc n) ≡ false
short_key n small = grind arith

-- a key of a package
key_is_one : (i : ℕ) → i < 256 → is_access_key (key_of i) ≡ true
key_is_one i small =
    let short : length (decimal i) ≤ 3 = length-decimal-le 3 i (omega arith) (omega arith) (omega arith) in
    ap (λ b. if b then false else if nat_lt 255 (length (key_of i)) then false else is_visible (key_of i))
    (not_empty (length (decimal i)))
    ∙ ap (λ b. if b then false else is_visible (key_of i)) (short_key (length (decimal i)) short)
    ∙ digits_are_visible i (omega arith)

-- two classes of one package
classes_apart : (name : List ℕ) → is_same (name ++ codes ".A") (name ++ codes ".R") ≡ false
classes_apart name = by _ refl
  where
    by : (b : Bool) → b ≡ is_same (name ++ codes ".A") (name ++ codes ".R")
        → is_same (name ++ codes ".A") (name ++ codes ".R") ≡ false
    by true is =
        let same : codes ".A" ≡ codes ".R" = append_cancel_left name (codes ".A") (codes ".R")
        (same_text (name ++ codes ".A") (name ++ codes ".R") is) in
        let told : false ≡ true = ap (λ (text : List ℕ). is_same text (codes ".R")) same in
        absurd cc
    by false is = sym is

-- a component with one filter of few lists
one_filter : (decl : Decl) (filter : Filter) → decl.filters ≡ filter ∷ [] → IsSoundFilter filter → IsSoundDecl decl
one_filter decl filter is sound = record {
  few = subst (λ (filters : List Filter). length filters ≤ 32) (sym is) (omega arith);
  filters = subst (λ (filters : List Filter). All IsSoundFilter filters) (sym is)
      (All-cons IsSoundFilter filter [] sound (All-nil IsSoundFilter));
}

-- a filter of one action and few categories
filter_is_sound : (action : List ℕ) (categories : List (List ℕ)) (priority : ℤ) → length categories ≤ 1
    → IsSoundFilter (filter_for action categories priority)
filter_is_sound action categories priority few = record {
  actions = omega arith;
  categories = omega (arith, few);
  schemes = omega arith;
  authorities = omega arith;
  paths = omega arith;
  types = omega arith;
}

activity_is_sound : (i state : ℕ) → IsSoundDecl (activity_of i state)
unfolding activity_of
activity_is_sound i state = one_filter _ _ refl (filter_is_sound _ _ _ (omega arith))

receiver_is_sound : (i state : ℕ) → IsSoundDecl (receiver_of i state)
unfolding receiver_of
receiver_is_sound i state = one_filter _ _ refl (filter_is_sound _ _ _ (omega arith))

-- a package
package_is_sound : (i state : ℕ) → i < 256 → IsSoundPackage (package_of i state)
unfolding activity_of receiver_of IsDistinct
package_is_sound i state small = record {
  lowest = omega arith;
  greatest = omega arith;
  name = name_is_one i small;
  key = key_is_one i small;
  few = omega arith;
  classes = ((classes_apart (name_of i), tt), (tt, tt));
  decls = All-cons IsSoundDecl (activity_of i state) (receiver_of i (after 2 state) ∷ []) (activity_is_sound i state)
      (All-cons IsSoundDecl (receiver_of i (after 2 state)) [] (receiver_is_sound i (after 2 state))
      (All-nil IsSoundDecl));
}

-- a part of each of the packages
parts_of : {X : Type 0} (part : Package → X) (state a k : ℕ)
    → map part (map (λ i. package_of i (after (4 * i) state)) (range_with_len a k))
    ≡ map (λ i. part (package_of i (after (4 * i) state))) (range_with_len a k)
parts_of part state a zero = refl
parts_of part state a (suc k) = ap (λ (others : List _). part (package_of a (after (4 * a) state)) ∷ others)
    (parts_of part state (a + 1) k)

module _ (packages state : ℕ) (few : packages ≤ 256) where
  names_are : names_of (packages_of packages state) ≡ map (λ i. name_of i) (range_with_len 0 packages)
  names_are = parts_of (λ (p : Package). p.name) state 0 packages

  keys_are : keys_of (packages_of packages state) ≡ map (λ i. key_of i) (range_with_len 0 packages)
  keys_are = parts_of (λ (p : Package). p.key) state 0 packages

  uids_are : uids_of (packages_of packages state) ≡ map (λ i. 10000 + i) (range_with_len 0 packages)
  uids_are = parts_of (λ (p : Package). p.uid) state 0 packages

  many : length (packages_of packages state) ≡ packages
  many = length-map-range_with_len (λ i. package_of i (after (4 * i) state)) 0 packages

  each_is_sound : (k : ℕ) (p : Package) → k < length (packages_of packages state)
      → IsSoundPackage (get_or (packages_of packages state) k p)
  each_is_sound k p less =
      let within : k < packages = omega (arith, many) in
      let is : get_or (packages_of packages state) k p ≡ package_of k (after (4 * k) state) =
      get_or-map-range_with_len (λ i. package_of i (after (4 * i) state)) 0 packages k k p within (omega arith) in
      subst IsSoundPackage (sym is) (package_is_sound k (after (4 * k) state) (omega arith))

  numbers_rise : IsStrictlyIncreasing (map (λ i. 10000 + i) (range_with_len 0 packages))
  numbers_rise k less =
      let all : length (map (λ i. 10000 + i) (range_with_len 0 packages))
      ≡ packages = length-map-range_with_len (λ i. 10000 + i) 0 packages in
      let here : get_or (map (λ i. 10000 + i) (range_with_len 0 packages)) k 0 ≡ 10000 + k =
      get_or-map-range_with_len (λ i. 10000 + i) 0 packages k k 0 (omega (arith, all)) (omega arith) in
      let there : get_or (map (λ i. 10000 + i) (range_with_len 0 packages)) (k + 1) 0 ≡ 10000 + (k + 1) =
      get_or-map-range_with_len (λ i. 10000 + i) 0 packages (k + 1) (k + 1) 0 (omega (arith, all)) (omega arith) in
      let rise : get_or (map (λ i. 10000 + i) (range_with_len 0 packages)) k 0 < get_or
      (map (λ i. 10000 + i) (range_with_len 0 packages)) (k + 1) 0 = omega arith in
      rise

  -- the packages
  packages_are_sound : AreSoundPackages (packages_of packages state)
  packages_are_sound = record {
    few = omega (arith, many);
    each = each_is_sound;
    rising = subst IsStrictlyIncreasing (sym uids_are) numbers_rise;
  }

  -- no two names are the same, and none is the system's
  names_apart : AreDistinct (codes "android" ∷ names_of (packages_of packages state))
  unfolding IsDistinct
  names_apart =
      subst (λ (names : List (List ℕ)). AreDistinct (codes "android" ∷ names)) (sym names_are) (
        apart_from (codes "android") (codes "p.") (λ n. refl) 0 packages,
        numbered_apart (codes "p.") 0 packages
            (omega arith),
      )

  -- no two keys are the same
  keys_apart : AreDistinct (codes "sys" ∷ keys_of (packages_of packages state))
  unfolding IsDistinct
  keys_apart =
      subst (λ (keys : List (List ℕ)). AreDistinct (codes "sys" ∷ keys)) (sym keys_are)
      (apart_from (codes "sys") (codes "k") (λ n. refl) 0 packages, numbered_apart (codes "k") 0 packages (omega arith))

  -- nobody was given a right
  no_rights : AreSoundRights (packages_of packages state) []
  unfolding IsStrictlySortedBy
  no_rights = record {
    order = tt;
    holders = All-nil _;
    few = λ uid. let none : 0 ≤ 256 = omega arith in none;
  }

  -- the device
  pub device_is_sound : IsSound (device_of packages state)
  unfolding device_of
  device_is_sound = record {
    packages = packages_are_sound;
    names = names_apart;
    owners = All-cons (λ key. IsTrue (is_access_key key)) (codes "sys") [] refl
        (All-nil (λ key. IsTrue (is_access_key key)));
    keys = keys_apart;
    grants = no_rights;
    links = no_rights;
  }
