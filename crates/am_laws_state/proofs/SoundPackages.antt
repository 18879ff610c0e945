-- Packages stay sound when one comes, goes or is stopped.
use Rattle.std.proofs.Common.{◌≡◌, ℕ, suc, ◌<◌, ◌≤◌, Bool, true, false, not, ◌||◌, cond, eqb, ltb, List, [], ◌∷◌, ◌++◌, length, map, refl, sym, ap, ◌∙◌, subst, arith}
use Rattle.std.specs.Prelude.{All, codes, filter, nat_lt, ◌==◌}
use Rattle.std.specs.Cmp.{nat_cmp_is}
use Rattle.std.specs.Cmp.Lexicographic.{nat_list_eq_equiv}
use Rattle.std.specs.List.{AllByRecursion, IsDistinct}
use Rattle.std.specs.List.Sorted.{IsStrictlyIncreasing, IsStrictlySortedBy}
use Rattle.std.specs.Ordering.{nat_cmp}
use Rattle.std.specs.declared.cmp.Ordering.TheVariants.{Less}
use Rattle.std.proofs.lemmas.Bool.{ltb-true, ltb-false, eq-eqb, eqb-true}
use Rattle.std.proofs.lemmas.List.Elements.{All-filter, All-from_recursion, recursion_from_All, All-weaker}
use Rattle.std.proofs.lemmas.Map.Keys.{IsStrictlyIncreasing-from_sorted}
use Rattle.am_types.specs.declared.device.Package.{Package}
use Rattle.am_model.specs.Boards.{is_package_uid, with_stopped, without_package}
use Rattle.am_model.specs.Lists.{inserted}
use Rattle.am_model.proofs.Lists.{all_inserted, all_map_inserted, all_map_filter, length_inserted, length_left}
use Rattle.am_model.specs.Sound.{AreDistinct, keys_of, names_of, uids_of}
use Rattle.am_model.specs.Texts.{is_same}
use Rattle.am_manifest.specs.Manifests.{IsSoundManifest}
use Rattle.am_installed.proofs.Changed.{uids_stopped}
use Rattle.am_installed.proofs.Rising.{Above, Rises, rises, increasing_without}
use Rattle.am_history.specs.Opening.{before_package}
use Rattle.am_laws_state.specs.Sound.{IsSoundApp, AreSoundApps}

-- a text differs from each of others
abbrev pub IsFree : List ℕ → List (List ℕ) → Type 0
IsFree text others = AllByRecursion (λ other. is_same other text ≡ false) others

-- and each of them from it
turned : (text : List ℕ) (others : List (List ℕ)) → IsFree text others
    → AllByRecursion (λ other. is_same text other ≡ false) others
turned text [] free = tt
turned text (first ∷ others) free = (nat_list_eq_equiv.symm text first ∙ free.0, turned text others free.1)

module _ (f : Package → List ℕ) where
  -- what is read of packages is distinct with one more
  distinct_inserted : (p : Package) (ps : List Package) → IsFree (f p) (map f ps) → AreDistinct (map f ps)
      → AreDistinct (map f (inserted before_package p ps))
  unfolding IsDistinct
  distinct_inserted p [] free distinct = (tt, tt)
  distinct_inserted p (first ∷ others) free distinct = by (nat_lt p.uid first.uid)
      (distinct_inserted p others free.1 distinct.1)
    where
      by : (b : Bool) → AreDistinct (map f (inserted before_package p others))
          → AreDistinct (map f (cond b (p ∷ first ∷ others) (first ∷ inserted before_package p others)))
      by true rest = (turned (f p) (map f (first ∷ others)) free, distinct)
      by false rest = (
        all_map_inserted before_package f (λ other. is_same (f first) other ≡ false) p others free.0
            distinct.0,
        rest,
      )

  -- and of fewer packages
  distinct_left : (keeps : Package → Bool) (ps : List Package) → AreDistinct (map f ps)
      → AreDistinct (map f (filter keeps ps))
  unfolding IsDistinct
  distinct_left keeps [] distinct = tt
  distinct_left keeps (first ∷ others) distinct = by (keeps first) (distinct_left keeps others distinct.1)
    where
      by : (b : Bool) → AreDistinct (map f (filter keeps others)) → AreDistinct
          (map f (cond b (first ∷ filter keeps others) (filter keeps others)))
      by true rest = (all_map_filter keeps f (λ other. is_same (f first) other ≡ false) others distinct.0, rest)
      by false rest = rest

  -- behind other texts
  all_behind_inserted : (P : List ℕ → Type 0) (front : List (List ℕ)) (p : Package) (ps : List Package) → P (f p)
      → AllByRecursion P (front ++ map f ps)
      → AllByRecursion P (front ++ map f (inserted before_package p ps))
  all_behind_inserted P [] p ps one all = all_map_inserted before_package f P p ps one all
  all_behind_inserted P (text ∷ front) p ps one all = (all.0, all_behind_inserted P front p ps one all.1)

  all_behind_left : (P : List ℕ → Type 0) (front : List (List ℕ)) (keeps : Package → Bool) (ps : List Package)
      → AllByRecursion P (front ++ map f ps)
      → AllByRecursion P (front ++ map f (filter keeps ps))
  all_behind_left P [] keeps ps all = all_map_filter keeps f P ps all
  all_behind_left P (text ∷ front) keeps ps all = (all.0, all_behind_left P front keeps ps all.1)

  -- what stands before, and what is read of packages, is distinct with one more
  pub front_inserted : (front : List (List ℕ)) (p : Package) (ps : List Package) → IsFree (f p) (front ++ map f ps)
      → AreDistinct (front ++ map f ps)
      → AreDistinct (front ++ map f (inserted before_package p ps))
  unfolding IsDistinct
  front_inserted [] p ps free distinct = distinct_inserted p ps free distinct
  front_inserted (text ∷ front) p ps free distinct = (
    all_behind_inserted (λ other. is_same text other ≡ false) front p ps free.0 distinct.0,
    front_inserted front p ps
        free.1 distinct.1,
  )

  -- and of fewer packages
  pub front_left : (front : List (List ℕ)) (keeps : Package → Bool) (ps : List Package)
      → AreDistinct (front ++ map f ps) → AreDistinct (front ++ map f (filter keeps ps))
  unfolding IsDistinct
  front_left [] keeps ps distinct = distinct_left keeps ps distinct
  front_left (text ∷ front) keeps ps distinct = (
    all_behind_left (λ other. is_same text other ≡ false) front keeps ps
        distinct.0,
    front_left front keeps ps distinct.1,
  )

  -- stopping a package changes nothing that is read of it
  pub read_stopped : ((p : Package) (stopped : Bool) → f (record p { stopped = stopped }) ≡ f p)
      → (ps : List Package) (uid : ℕ) (stopped : Bool)
      → map f (with_stopped ps uid stopped) ≡ map f ps
  read_stopped same [] uid stopped = refl
  read_stopped same (p ∷ ps) uid stopped = by (eqb p.uid uid) (read_stopped same ps uid stopped)
    where
      by : (b : Bool) → map f (with_stopped ps uid stopped) ≡ map f ps
          → f (cond b (record p { stopped = stopped }) p) ∷ map f (with_stopped ps uid stopped) ≡ f p ∷ map f ps
      by true rest = ap (λ x. x ∷ map f (with_stopped ps uid stopped)) (same p stopped) ∙ ap (λ l. f p ∷ l) rest
      by false rest = ap (λ l. f p ∷ l) rest

-- what holds of packages holds of them if one is stopped
pub all_stopped : (P : Package → Type 0) → ((p : Package) (stopped : Bool) → P p → P (record p { stopped = stopped }))
    → (ps : List Package) (uid : ℕ) (stopped : Bool)
    → All P ps → All P (with_stopped ps uid stopped)
all_stopped P keeps ps uid stopped all = All-from_recursion P (with_stopped ps uid stopped)
    (each ps (recursion_from_All P ps all))
  where
    each : (ps : List Package) → AllByRecursion P ps → AllByRecursion P (with_stopped ps uid stopped)
    each [] all = tt
    each (p ∷ ps) all = by (eqb p.uid uid) (each ps all.1)
      where
        by : (b : Bool) → AllByRecursion P (with_stopped ps uid stopped)
            → AllByRecursion P (cond b (record p { stopped = stopped }) p ∷ with_stopped ps uid stopped)
        by true rest = (keeps p stopped all.0, rest)
        by false rest = (all.0, rest)

-- uids that rise are in order
above_less : (uid : ℕ) (ps : List Package) → Above uid ps → AllByRecursion (λ y. nat_cmp uid y ≡ Less) (uids_of ps)
above_less uid [] above = tt
above_less uid (p ∷ ps) above = (sym (nat_cmp_is uid p.uid Less above.0), above_less uid ps above.1)

sorted : (ps : List Package) → Rises ps → IsStrictlySortedBy nat_cmp (uids_of ps)
unfolding IsStrictlySortedBy
sorted [] rise = tt
sorted (p ∷ ps) rise = (above_less p.uid ps rise.0, sorted ps rise.1)

-- a uid below another is below those above it
above_through : (low uid : ℕ) (ps : List Package) → low < uid → Above uid ps → Above low ps
above_through low uid [] less above = tt
above_through low uid (p ∷ ps) less above = (
  let first : uid < p.uid = above.0 in omega arith,
  above_through low uid ps
      less above.1,
)

above_inserted : (uid : ℕ) (p : Package) (ps : List Package) → uid < p.uid → Above uid ps
    → Above uid (inserted before_package p ps)
above_inserted uid p [] less above = (less, tt)
above_inserted uid p (first ∷ others) less above = by (nat_lt p.uid first.uid)
    (above_inserted uid p others less above.1)
  where
    by : (b : Bool) → Above uid (inserted before_package p others)
        → Above uid (cond b (p ∷ first ∷ others) (first ∷ inserted before_package p others))
    by true rest = (less, above)
    by false rest = (above.0, rest)

-- no package has the uid
abbrev pub IsNew : ℕ → List Package → Type 0
IsNew uid ps = is_package_uid ps uid ≡ false

-- one of another uid comes into its place
rises_inserted : (p : Package) (ps : List Package) → IsNew p.uid ps → Rises ps → Rises (inserted before_package p ps)
rises_inserted p [] new rise = (tt, tt)
rises_inserted p (first ∷ others) new rise = by (ltb p.uid first.uid) refl
    (rises_inserted p others (apart (eqb first.uid p.uid) new) rise.1)
  where
    apart : (b : Bool) → b || is_package_uid others p.uid ≡ false → IsNew p.uid others
    apart true e = absurd cc
    apart false e = e

    differs : (b : Bool) → eqb first.uid p.uid ≡ b → b || is_package_uid others p.uid ≡ false → first.uid ≡ p.uid → ⊥
    differs true is e same = cc
    differs false is e same = let tested : eqb first.uid p.uid ≡ true = eq-eqb first.uid p.uid same in cc

    by : (b : Bool) → ltb p.uid first.uid ≡ b → Rises (inserted before_package p others)
        → Rises (cond b (p ∷ first ∷ others) (first ∷ inserted before_package p others))
    by true is rest =
        let less : p.uid < first.uid = ltb-true p.uid first.uid is in
        ((less, above_through p.uid first.uid others less rise.0), rise)
    by false is rest =
        let not_less : first.uid ≤ p.uid = ltb-false p.uid first.uid is in
        let other : first.uid ≡ p.uid → ⊥ = differs (eqb first.uid p.uid) refl new in
        let less : first.uid < p.uid = omega arith in
        (above_inserted first.uid p others less rise.0, rest)

-- a package that is above all others stands behind them
pub inserted_last : (p : Package) (ps : List Package) → AllByRecursion (λ (q : Package). q.uid < p.uid) ps
    → inserted before_package p ps ≡ ps ++ p ∷ []
inserted_last p [] below = refl
inserted_last p (first ∷ others) below =
    ap (λ b. cond b (p ∷ first ∷ others) (first ∷ inserted before_package p others)) (by (ltb p.uid first.uid) refl)
    ∙ ap (λ l. first ∷ l) (inserted_last p others below.1)
  where
    by : (b : Bool) → ltb p.uid first.uid ≡ b → b ≡ false
    by true is = absurd (let less : p.uid < first.uid = ltb-true p.uid first.uid is in let more : first.uid < p.uid =
        below.0 in omega arith)
    by false is = refl

-- no package has a uid that is above all others
pub last_is_new : (uid : ℕ) (ps : List Package) → AllByRecursion (λ (q : Package). q.uid < uid) ps → IsNew uid ps
last_is_new uid [] below = refl
last_is_new uid (first ∷ others) below = by (eqb first.uid uid) refl (last_is_new uid others below.1)
  where
    by : (b : Bool) → eqb first.uid uid ≡ b → IsNew uid others → b || is_package_uid others uid ≡ false
    by true is rest = absurd (let same : first.uid ≡ uid = eqb-true first.uid uid is in let less : first.uid < uid =
        below.0 in omega arith)
    by false is rest = rest

-- a package with an app's uid and what a sound manifest declares
pub manifest_app : (p : Package) → 10000 ≤ p.uid → IsSoundManifest (record { «package» = p.name; decls = p.decls })
    → IsSoundApp p
manifest_app p lowest sound =
    record { lowest = lowest; name = sound.name; few = sound.few; classes = sound.classes; decls = sound.decls }

-- what a package needs to come
pub record IsFreeApp (owners : List (List ℕ)) (packages : List Package) (next_uid : ℕ) (p : Package) : Type 0 where
  pub sound : IsSoundApp p
  pub room : length packages < 256
  pub new : IsNew p.uid packages
  pub below : p.uid < next_uid
  pub name : IsFree p.name (codes "android" ∷ names_of packages)
  pub key : IsFree p.key (owners ++ keys_of packages)

-- a package comes into its place
pub apps_inserted : (owners : List (List ℕ)) (packages : List Package) (next_uid : ℕ) (p : Package)
    → AreSoundApps owners packages next_uid
    → IsFreeApp owners packages next_uid p → AreSoundApps owners (inserted before_package p packages) next_uid
apps_inserted owners packages next_uid p sound free = record {
  few = let fits : length packages < 256 = free.room in let one = length_inserted before_package p packages in omega
      arith;
  each = All-from_recursion IsSoundApp (inserted before_package p packages)
      (all_inserted before_package IsSoundApp p packages free.sound
      (recursion_from_All IsSoundApp packages sound.each));
  rising = IsStrictlyIncreasing-from_sorted (uids_of (inserted before_package p packages))
      (sorted (inserted before_package p packages) (rises_inserted p packages free.new (rises packages sound.rising)));
  below = All-from_recursion (λ (q : Package). q.uid < next_uid) (inserted before_package p packages)
      (all_inserted before_package (λ (q : Package). q.uid < next_uid) p packages free.below
      (recursion_from_All (λ (q : Package). q.uid < next_uid) packages sound.below));
  next = sound.next;
  names = front_inserted (λ (q : Package). q.name) (codes "android" ∷ []) p packages free.name sound.names;
  keys = front_inserted (λ (q : Package). q.key) owners p packages free.key sound.keys;
}

-- a package goes
pub apps_without : (owners : List (List ℕ)) (packages : List Package) (next_uid uid : ℕ)
    → AreSoundApps owners packages next_uid
    → AreSoundApps owners (without_package packages uid) next_uid
apps_without owners packages next_uid uid sound = record {
  few = let fits : length packages ≤ 256 = sound.few in let left = length_left keeps packages in omega arith;
  each = All-filter keeps IsSoundApp packages sound.each;
  rising = increasing_without packages uid sound.rising;
  below = All-filter keeps (λ (q : Package). q.uid < next_uid) packages sound.below;
  next = sound.next;
  names = front_left (λ (q : Package). q.name) (codes "android" ∷ []) keeps packages sound.names;
  keys = front_left (λ (q : Package). q.key) owners keeps packages sound.keys;
}
  where
    keeps : Package → Bool
    keeps p = not (p.uid == uid)

-- a package is stopped, or not any more
pub apps_stopped : (owners : List (List ℕ)) (packages : List Package) (next_uid uid : ℕ) (stopped : Bool)
    → AreSoundApps owners packages next_uid
    → AreSoundApps owners (with_stopped packages uid stopped) next_uid
apps_stopped owners packages next_uid uid stopped sound = record {
  few = subst (λ n. n ≤ 256) (sym (length_stopped packages)) sound.few;
  each = all_stopped IsSoundApp (λ p stopped app. record {
    lowest = app.lowest;
    name = app.name;
    few = app.few;
    classes
        = app.classes;
    decls = app.decls;
  }) packages uid stopped sound.each;
  rising = subst (λ (l : List ℕ). IsStrictlyIncreasing l) (sym (uids_stopped packages uid stopped)) sound.rising;
  below = all_stopped (λ (q : Package). q.uid < next_uid) (λ p stopped less. less) packages uid stopped sound.below;
  next = sound.next;
  names = subst (λ (l : List (List ℕ)). AreDistinct (codes "android" ∷ l))
      (sym (read_stopped (λ (q : Package). q.name) (λ p b. refl) packages uid stopped)) sound.names;
  keys = subst (λ (l : List (List ℕ)). AreDistinct (owners ++ l)) (sym
      (read_stopped (λ (q : Package). q.key) (λ p b. refl) packages uid stopped)) sound.keys;
}
  where
    length_stopped : (ps : List Package) → length (with_stopped ps uid stopped) ≡ length ps
    length_stopped [] = refl
    length_stopped (p ∷ ps) = ap suc (length_stopped ps)

-- a greater next uid
pub apps_raised : (owners : List (List ℕ)) (packages : List Package) (next_uid more : ℕ) → next_uid ≤ more
    → AreSoundApps owners packages next_uid
    → AreSoundApps owners packages more
apps_raised owners packages next_uid more up sound = record {
  few = sound.few;
  each = sound.each;
  rising = sound.rising;
  below = All-weaker (λ (q : Package). q.uid < next_uid) (λ (q : Package). q.uid < more)
      (λ q less. through q.uid next_uid more up less) packages sound.below;
  next = let low : 10000 ≤ next_uid = sound.next in omega arith;
  names = sound.names;
  keys = sound.keys;
}
  where
    through : (a n m : ℕ) → n ≤ m → a < n → a < m
    through a n m up less = omega arith
