-- In a sound state the keys that are known are those of its callers.
use Rattle.std.proofs.Common.{◌≡◌, ℕ, ◌<◌, ◌≤◌, Bool, true, false, ◌||◌, ◌&&◌, cond, eqb, List, [], ◌∷◌, ◌++◌, refl, sym, ap, ◌∙◌, subst, arith}
use Rattle.std.specs.Prelude.{Option, Some, None, is_some}
use Rattle.std.specs.List.{AllByRecursion, IsDistinct}
use Rattle.std.proofs.lemmas.Bool.{eqb-true, eq-eqb}
use Rattle.std.proofs.lemmas.Slice.Eq.{bytes_eq-Decides}
use Rattle.std.proofs.lemmas.List.Elements.{recursion_from_All}
use Rattle.am_types.specs.declared.device.Package.{Package}
use Rattle.am_model.specs.Boards.{is_package_uid}
use Rattle.am_model.specs.Sound.{AreDistinct, keys_of, owner_keys}
use Rattle.am_model.specs.Texts.{is_same}
use Rattle.am_installed.proofs.Rising.{Above, Rises, apart, rises}
use Rattle.am_history.specs.State.{State, key_of_package, root_or, uid_of_package}
use Rattle.am_laws_state.specs.Sound.{IsSoundApp, IsSoundState}
use Rattle.am_laws_state.specs.Keys.{KeysAreKnown}

-- what texts that are the same are
same_is : (a b : List ℕ) → is_same a b ≡ true → a ≡ b
same_is a b is = (bytes_eq-Decides a b).0 is

is_itself : (a b : List ℕ) → a ≡ b → is_same a b ≡ true
is_itself a b is = (bytes_eq-Decides a b).1 is

some_is : {A : Type 0} {x y : A} → ◌≡◌ {A = Option A} (Some x) (Some y) → x ≡ y
some_is e = cc

-- ---- a key among packages

-- a key that differs from those of all packages is none of theirs
not_free : (text : List ℕ) (ps : List Package) (uid : ℕ) (key : List ℕ)
    → AllByRecursion (λ other. is_same text other ≡ false) (keys_of ps)
    → key_of_package ps uid ≡ Some key → is_same text key ≡ false
not_free text [] uid key free is = absurd cc
not_free text (p ∷ ps) uid key free is = by (eqb p.uid uid) (not_free text ps uid key free.1) is
  where
    by : (b : Bool) → (key_of_package ps uid ≡ Some key → is_same text key ≡ false)
        → cond b (Some p.key) (key_of_package ps uid) ≡ Some key
        → is_same text key ≡ false
    by true rest e = subst (λ (k : List ℕ). is_same text k ≡ false) (some_is e) free.0
    by false rest e = rest e

-- the key of a package with a uid has that uid
forward : (ps : List Package) (uid : ℕ) (key : List ℕ) → AreDistinct (keys_of ps) → key_of_package ps uid
    ≡ Some key → uid_of_package ps key ≡ Some uid
unfolding IsDistinct
forward [] uid key distinct is = absurd cc
forward (p ∷ ps) uid key distinct is = by (eqb p.uid uid) refl (forward ps uid key distinct.1) is
  where
    by : (b : Bool) → eqb p.uid uid ≡ b → (key_of_package ps uid ≡ Some key → uid_of_package ps key ≡ Some uid)
        → cond b (Some p.key) (key_of_package ps uid) ≡ Some key
        → cond (is_same p.key key) (Some p.uid) (uid_of_package ps key) ≡ Some uid
    by true here rest e =
        ap (λ b. cond b (Some p.uid) (uid_of_package ps key)) (is_itself p.key key (some_is e))
        ∙ ap Some (eqb-true p.uid uid here)
    by false here rest e =
        ap (λ b. cond b (Some p.uid) (uid_of_package ps key)) (not_free p.key ps uid key distinct.0 e) ∙ rest e

-- a package with that key is above a uid that all are above
is_above : (low : ℕ) (ps : List Package) (uid : ℕ) (key : List ℕ) → Above low ps → uid_of_package ps key ≡ Some uid
    → low < uid
is_above low [] uid key above is = absurd cc
is_above low (p ∷ ps) uid key above is = by (is_same p.key key) (is_above low ps uid key above.1) is
  where
    by : (b : Bool) → (uid_of_package ps key ≡ Some uid → low < uid) → cond b (Some p.uid) (uid_of_package ps key)
        ≡ Some uid → low < uid
    by true rest e = subst (λ (n : ℕ). low < n) (some_is e) above.0
    by false rest e = rest e

-- what is found, by whether the first package has the uid
abbrev found_by : Package → List Package → ℕ → Bool → Option (List ℕ)
found_by p ps uid b = cond b (Some p.key) (key_of_package ps uid)

-- the uid of a package with a key has that key
backward : (ps : List Package) (uid : ℕ) (key : List ℕ) → Rises ps → uid_of_package ps key ≡ Some uid
    → key_of_package ps uid ≡ Some key
backward [] uid key up is = absurd cc
backward (p ∷ ps) uid key up is = by (is_same p.key key) refl (backward ps uid key up.1) is
  where
    by : (b : Bool) → is_same p.key key ≡ b → (uid_of_package ps key ≡ Some uid → key_of_package ps uid
        ≡ Some key) → cond b (Some p.uid) (uid_of_package ps key) ≡ Some uid → found_by p ps uid (eqb p.uid uid)
        ≡ Some key
    by true here rest e = ap (found_by p ps uid) (eq-eqb p.uid uid (some_is e)) ∙ ap Some (same_is p.key key here)
    by false here rest e = ap (found_by p ps uid) (apart p.uid uid (is_above p.uid ps uid key up.0 e) (eqb p.uid uid)
        refl) ∙ rest e

-- no key among packages: none has the uid
none_has : (ps : List Package) (uid : ℕ) → key_of_package ps uid ≡ None → is_package_uid ps uid ≡ false
none_has [] uid is = refl
none_has (p ∷ ps) uid is = by (eqb p.uid uid) (none_has ps uid) is
  where
    by : (b : Bool) → (key_of_package ps uid ≡ None → is_package_uid ps uid ≡ false)
        → cond b (Some p.key) (key_of_package ps uid) ≡ None
        → b || is_package_uid ps uid ≡ false
    by true rest e = absurd cc
    by false rest e = rest e

-- and the other way round
has_none : (ps : List Package) (uid : ℕ) → is_package_uid ps uid ≡ false → key_of_package ps uid ≡ None
has_none [] uid is = refl
has_none (p ∷ ps) uid is = by (eqb p.uid uid) (has_none ps uid) is
  where
    by : (b : Bool) → (is_package_uid ps uid ≡ false → key_of_package ps uid ≡ None) → b || is_package_uid ps uid ≡ false
        → cond b (Some p.key) (key_of_package ps uid) ≡ None
    by true rest e = absurd cc
    by false rest e = rest e

-- packages have the uids of apps
low_has_none : (ps : List Package) (uid : ℕ) → AllByRecursion IsSoundApp ps → uid < 10000 → is_package_uid ps uid
    ≡ false
low_has_none [] uid apps low = refl
low_has_none (p ∷ ps) uid apps low = by (eqb p.uid uid) refl (low_has_none ps uid apps.1 low)
  where
    by : (b : Bool) → eqb p.uid uid ≡ b → is_package_uid ps uid ≡ false → b || is_package_uid ps uid ≡ false
    by true here rest = absurd (let same : p.uid ≡ uid = eqb-true p.uid uid here in let lowest = apps.0.lowest in omega
        arith)
    by false here rest = rest

is_app : (ps : List Package) (uid : ℕ) (key : List ℕ) → AllByRecursion IsSoundApp ps → uid_of_package ps key ≡ Some uid
    → 10000 ≤ uid
is_app [] uid key apps is = absurd cc
is_app (p ∷ ps) uid key apps is = by (is_same p.key key) (is_app ps uid key apps.1) is
  where
    by : (b : Bool) → (uid_of_package ps key ≡ Some uid → 10000 ≤ uid) → cond b (Some p.uid) (uid_of_package ps key)
        ≡ Some uid → 10000 ≤ uid
    by true rest e = subst (λ (n : ℕ). 10000 ≤ n) (some_is e) apps.0.lowest
    by false rest e = rest e

-- ---- the owners besides

-- a number is not another
differs : (a b : ℕ) → a < b → eqb b a ≡ false
differs a b less = by (eqb b a) refl
  where
    by : (c : Bool) → eqb b a ≡ c → c ≡ false
    by true is = absurd (let same : b ≡ a = eqb-true b a is in omega arith)
    by false is = refl

module _ (system : List ℕ) (ps : List Package) (apps : AllByRecursion IsSoundApp ps) (up : Rises ps) where
  abbrev keyed : Option (List ℕ) → ℕ → Option (List ℕ)
  keyed root uid = cond (eqb uid 1000) (Some system) (cond (eqb uid 0) root (key_of_package ps uid))

  abbrev found : Option (List ℕ) → List ℕ → Option ℕ
  found root key = cond (is_same system key) (Some 1000) (root_or root key (uid_of_package ps key))

  -- a package's key
  app_forward : (root : Option (List ℕ)) (uid : ℕ) (key : List ℕ) → AreDistinct (owner_keys system root ++ keys_of ps)
      → key_of_package ps uid ≡ Some key → found root key ≡ Some uid
  unfolding IsDistinct
  app_forward None uid key distinct is =
      ap (λ b. cond b (Some 1000) (uid_of_package ps key)) (not_free system ps uid key distinct.0 is)
      ∙ forward ps uid key distinct.1 is
  app_forward (Some root) uid key distinct is =
      ap (λ b. cond b (Some 1000) (cond (is_same root key) (Some 0) (uid_of_package ps key)))
      (not_free system ps uid key distinct.0.1 is)
      ∙ ap (λ b. cond b (Some 0) (uid_of_package ps key)) (not_free root ps uid key distinct.1.0 is)
      ∙ forward ps uid key distinct.1.1 is

  -- the root's key
  root_forward : (root : Option (List ℕ)) (key : List ℕ) → AreDistinct (owner_keys system root ++ keys_of ps) → root
      ≡ Some key → found root key ≡ Some 0
  unfolding IsDistinct
  root_forward None key distinct is = absurd cc
  root_forward (Some root) key distinct is =
      ap (λ b. cond b (Some 1000) (cond (is_same root key) (Some 0) (uid_of_package ps key)))
      (subst (λ (k : List ℕ). is_same system k ≡ false) (some_is is) distinct.0.0)
      ∙ ap (λ b. cond b (Some 0) (uid_of_package ps key)) (is_itself root key (some_is is))

  key_forward : (root : Option (List ℕ)) (uid : ℕ) (key : List ℕ) → AreDistinct (owner_keys system root ++ keys_of ps)
      → keyed root uid ≡ Some key → found root key ≡ Some uid
  key_forward root uid key distinct is = by (eqb uid 1000) (eqb uid 0) refl refl is
    where
      by : (a b : Bool) → eqb uid 1000 ≡ a → eqb uid 0 ≡ b → cond a (Some system)
          (cond b root (key_of_package ps uid)) ≡ Some key → found root key ≡ Some uid
      by true b here there e =
          ap (λ c. cond c (Some 1000) (root_or root key (uid_of_package ps key))) (is_itself system key (some_is e))
          ∙ sym (ap Some (eqb-true uid 1000 here))
      by false true here there e = root_forward root key distinct e ∙ sym (ap Some (eqb-true uid 0 there))
      by false false here there e = app_forward root uid key distinct e

  -- a package's uid
  app_backward : (root : Option (List ℕ)) (uid : ℕ) (key : List ℕ) → uid_of_package ps key ≡ Some uid → keyed root uid
      ≡ Some key
  app_backward root uid key is =
      let app = is_app ps uid key apps is in
      let high : 1000 < uid = omega arith in
      let some : 0 < uid = omega arith in
      ap (λ a. cond a (Some system) (cond (eqb uid 0) root (key_of_package ps uid))) (differs 1000 uid high)
      ∙ ap (λ b. cond b root (key_of_package ps uid)) (differs 0 uid some)
      ∙ backward ps uid key up is

  root_backward : (root : Option (List ℕ)) (uid : ℕ) (key : List ℕ) → root_or root key (uid_of_package ps key)
      ≡ Some uid → keyed root uid ≡ Some key
  root_backward None uid key is = app_backward None uid key is
  root_backward (Some root) uid key is = by (is_same root key) refl is
    where
      by : (b : Bool) → is_same root key ≡ b → cond b (Some 0) (uid_of_package ps key) ≡ Some uid
          → keyed (Some root) uid ≡ Some key
      by true here e = ap (keyed (Some root)) (sym (some_is e)) ∙ ap Some (same_is root key here)
      by false here e = app_backward (Some root) uid key e

  key_backward : (root : Option (List ℕ)) (uid : ℕ) (key : List ℕ) → found root key ≡ Some uid → keyed root uid
      ≡ Some key
  key_backward root uid key is = by (is_same system key) refl is
    where
      by : (b : Bool) → is_same system key ≡ b → cond b (Some 1000) (root_or root key (uid_of_package ps key))
          ≡ Some uid → keyed root uid ≡ Some key
      by true here e = ap (keyed root) (sym (some_is e)) ∙ ap Some (same_is system key here)
      by false here e = root_backward root uid key e

  -- no key, no caller
  root_none : (root : Option (List ℕ)) (uid : ℕ) → root ≡ None → eqb uid 0 ≡ true
      → (true && is_some root) || is_package_uid ps uid ≡ false
  root_none None uid is here =
      low_has_none ps uid apps (let same : uid ≡ 0 = eqb-true uid 0 here in omega arith)
  root_none (Some root) uid is here = absurd cc

  key_none : (root : Option (List ℕ)) (uid : ℕ) → keyed root uid ≡ None
      → (eqb uid 1000 || (eqb uid 0 && is_some root)) || is_package_uid ps uid ≡ false
  key_none root uid is = by (eqb uid 1000) (eqb uid 0) refl is
    where
      by : (a b : Bool) → eqb uid 0 ≡ b → cond a (Some system) (cond b root (key_of_package ps uid)) ≡ None
          → (a || (b && is_some root)) || is_package_uid ps uid ≡ false
      by true b there e = absurd cc
      by false true there e = root_none root uid e there
      by false false there e = none_has ps uid e

  -- no caller, no key
  no_caller_no_key : (root : Option (List ℕ)) (uid : ℕ)
      → (eqb uid 1000 || (eqb uid 0 && is_some root)) || is_package_uid ps uid ≡ false → keyed root uid ≡ None
  no_caller_no_key root uid none = by root (eqb uid 1000) (eqb uid 0) none
    where
      by : (root : Option (List ℕ)) (a b : Bool) → (a || (b && is_some root)) || is_package_uid ps uid ≡ false
          → cond a (Some system) (cond b root (key_of_package ps uid)) ≡ None
      by root true b e = absurd cc
      by None false true e = refl
      by (Some root) false true e = absurd cc
      by root false false e = has_none ps uid e

pub sound_keys : (state : State) → IsSoundState state → KeysAreKnown state
sound_keys state sound = record {
  known = λ uid key. (
    key_forward state.system_key state.board.packages apps up state.root_key uid key sound.packages.keys,
    key_backward state.system_key state.board.packages apps up state.root_key uid key,
  );
  none = λ uid. (
    key_none state.system_key state.board.packages apps up state.root_key uid,
    no_caller_no_key state.system_key state.board.packages apps up state.root_key uid,
  );
}
  where
    apps : AllByRecursion IsSoundApp state.board.packages
    apps = recursion_from_All IsSoundApp state.board.packages sound.packages.each

    up : Rises state.board.packages
    up = rises state.board.packages sound.packages.rising
