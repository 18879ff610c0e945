-- Lists of which something is left out, or into which something is put in its place.
use Rattle.std.proofs.Common.{◌≡◌, ℕ, ◌+◌, suc, add-one, ◌≤◌, Bool, true, false, not, ◌||◌, cond, List, [], ◌∷◌, length, map, refl, ap, ◌∙◌, arith}
use Rattle.std.proofs.lemmas.Bool.{cond_both}
use Rattle.std.specs.Prelude.{filter, insert}
use Rattle.std.specs.List.{AllByRecursion, list_any}
use Rattle.am_model.specs.Lists.{AscendsBy, inserted, place_of}

-- of three truths the first two may be exchanged
or_swap : (a b c : Bool) → a || (b || c) ≡ b || (a || c)
or_swap true true c = refl
or_swap true false c = refl
or_swap false b c = refl

module _ {X : Type 0} (before : X → X → Bool) where
  -- what holds of one and of all others holds of all
  pub all_inserted : (P : X → Type 0) (x : X) (xs : List X) → P x → AllByRecursion P xs
      → AllByRecursion P (inserted before x xs)
  all_inserted P x [] one all = (one, tt)
  all_inserted P x (first ∷ others) one all = cond_both (before x first) (x ∷ first ∷ others) _ (AllByRecursion P)
      (λ is. (one, all)) (λ is. (all.0, all_inserted P x others one all.1))

  -- and so of what is read of them
  pub all_map_inserted : {Y : Type 0} (f : X → Y) (P : Y → Type 0) (x : X) (xs : List X) → P (f x)
      → AllByRecursion P (map f xs)
      → AllByRecursion P (map f (inserted before x xs))
  all_map_inserted f P x [] one all = (one, tt)
  all_map_inserted f P x (first ∷ others) one all = cond_both (before x first) (x ∷ first ∷ others) _
      (λ xs. AllByRecursion P (map f xs)) (λ is. (one, all)) (λ is. (all.0, all_map_inserted f P x others one all.1))

  -- there is one more
  pub length_inserted : (x : X) (xs : List X) → length (inserted before x xs) ≡ suc (length xs)
  length_inserted x [] = refl
  length_inserted x (first ∷ others) = by (before x first) (length_inserted x others)
    where
      by : (b : Bool) → length (inserted before x others) ≡ suc (length others)
          → length (cond b (x ∷ first ∷ others) (first ∷ inserted before x others)) ≡ suc (suc (length others))
      by true rest = refl
      by false rest = ap suc rest

  -- as many of it pass a test as of the others and that one
  pub filter_inserted : (test : X → Bool) (x : X) (xs : List X) → length (filter test (inserted before x xs))
      ≡ length (filter test (x ∷ xs))
  filter_inserted test x [] = refl
  filter_inserted test x (first ∷ others) = by (before x first) (filter_inserted test x others)
    where
      left : List X
      left = filter test (inserted before x others)

      among : (one other : Bool) → length left ≡ length (cond one (x ∷ filter test others) (filter test others))
          → length (cond other (first ∷ left) left) ≡ length (cond one
          (x ∷ cond other (first ∷ filter test others) (filter test others))
          (cond other (first ∷ filter test others) (filter test others)))
      among true true rest = ap suc rest
      among true false rest = rest
      among false true rest = ap suc rest
      among false false rest = rest

      by : (b : Bool) → length left ≡ length (filter test (x ∷ others))
          → length (filter test (cond b (x ∷ first ∷ others) (first ∷ inserted before x others)))
          ≡ length (filter test (x ∷ first ∷ others))
      by true rest = refl
      by false rest = among (test x) (test first) rest

  -- one passes a test if that one or one of the others does
  pub any_inserted : (test : X → Bool) (x : X) (xs : List X) → list_any test (inserted before x xs)
      ≡ test x || list_any test xs
  any_inserted test x [] = refl
  any_inserted test x (first ∷ others) = by (before x first) (any_inserted test x others)
    where
      by : (b : Bool) → list_any test (inserted before x others) ≡ test x || list_any test others
          → list_any test (cond b (x ∷ first ∷ others) (first ∷ inserted before x others))
          ≡ test x || list_any test (first ∷ others)
      by true rest = refl
      by false rest = ap (λ b. test first || b) rest ∙ or_swap (test first) (test x) (list_any test others)

  -- it stands behind those that it doesn't belong before
  pub inserted_at : (x : X) (xs : List X) → inserted before x xs ≡ insert xs (place_of before x xs) x
  inserted_at x [] = refl
  inserted_at x (first ∷ others) = by (before x first) (place_of before x others) (inserted_at x others)
    where
      by : (b : Bool) (n : ℕ) → inserted before x others ≡ insert others n x
          → cond b (x ∷ first ∷ others) (first ∷ inserted before x others)
          ≡ insert (first ∷ others) (cond b 0 (n + 1)) x
      by true n rest = refl
      by false n rest = rw (add-one n) (ap (λ l. first ∷ l) rest)

  -- of which there are no more than others
  pub place_within : (x : X) (xs : List X) → place_of before x xs ≤ length xs
  place_within x [] = omega arith
  place_within x (first ∷ others) = by (before x first) (place_of before x others) (place_within x others)
    where
      by : (b : Bool) (n : ℕ) → n ≤ length others → cond b 0 (n + 1) ≤ suc (length others)
      by true n rest = omega arith
      by false n rest = omega (arith, rest)

-- what holds of all holds of those that are left
pub all_left : {X : Type 0} (P : X → Type 0) (keeps : X → Bool) (xs : List X) → AllByRecursion P xs
    → AllByRecursion P (filter keeps xs)
all_left P keeps [] all = tt
all_left P keeps (first ∷ others) all =
    let rest = all_left P keeps others all.1 in
    cond_both (keeps first) (first ∷ filter keeps others) _ (AllByRecursion P) (λ is. (all.0, rest)) (λ is. rest)

-- and so of what is read of them
pub all_map_filter : {X Y : Type 0} (keeps : X → Bool) (f : X → Y) (P : Y → Type 0) (xs : List X)
    → AllByRecursion P (map f xs) → AllByRecursion P (map f (filter keeps xs))
all_map_filter keeps f P [] all = tt
all_map_filter keeps f P (first ∷ others) all =
    let rest = all_map_filter keeps f P others all.1 in
    cond_both (keeps first) (first ∷ filter keeps others) _ (λ xs. AllByRecursion P (map f xs)) (λ is. (all.0, rest))
    (λ is. rest)

-- none passes a test where those that pass it were left out
pub none_left : {X : Type 0} (test : X → Bool) (xs : List X) → list_any test (filter (λ x. not (test x)) xs) ≡ false
none_left test [] = refl
none_left {X = X} test (first ∷ others) = by (test first) refl (none_left test others)
  where
    left : List X
    left = filter (λ x. not (test x)) others

    by : (b : Bool) → test first ≡ b → list_any test left ≡ false → list_any test (cond (not b) (first ∷ left) left)
        ≡ false
    by true is rest = rest
    by false is rest = ap (λ b. b || list_any test left) is ∙ rest

-- no more are left
pub length_left : {X : Type 0} (keeps : X → Bool) (xs : List X) → length (filter keeps xs) ≤ length xs
length_left keeps [] = omega arith
length_left keeps (first ∷ others) = by (keeps first) (length_left keeps others)
  where
    by : (b : Bool) → length (filter keeps others) ≤ length others
        → length (cond b (first ∷ filter keeps others) (filter keeps others)) ≤ suc (length others)
    by true rest = omega arith
    by false rest = omega arith

-- and no more of them pass a test
pub filter_left : {X : Type 0} (keeps test : X → Bool) (xs : List X)
    → length (filter test (filter keeps xs)) ≤ length (filter test xs)
filter_left keeps test [] = omega arith
filter_left keeps test (first ∷ others) = by (keeps first) (test first) refl (filter_left keeps test others)
  where
    by : (b c : Bool) → test first ≡ c → length (filter test (filter keeps others)) ≤ length (filter test others)
        → length (filter test (cond b (first ∷ filter keeps others) (filter keeps others))) ≤ length
        (cond c (first ∷ filter test others) (filter test others))
    by true true is rest = rw is (omega arith)
    by true false is rest = rw is rest
    by false true is rest = omega arith
    by false false is rest = rest

-- what is left out once is left out twice
pub left_twice : {X : Type 0} (keeps : X → Bool) (xs : List X) → filter keeps (filter keeps xs) ≡ filter keeps xs
left_twice keeps [] = refl
left_twice keeps (x ∷ xs) = by (keeps x) refl (left_twice keeps xs)
  where
    by : (b : Bool) → keeps x ≡ b → filter keeps (filter keeps xs) ≡ filter keeps xs
        → filter keeps (cond b (x ∷ filter keeps xs) (filter keeps xs)) ≡ cond b (x ∷ filter keeps xs) (filter keeps xs)
    by true is rest = ap (λ b. cond b (x ∷ filter keeps (filter keeps xs)) (filter keeps (filter keeps xs))) is
        ∙ ap (λ l. x ∷ l) rest
    by false is rest = rest

-- fewer items ascend as all do
pub ascends_by_left : {X : Type 0} (before : X → X → Type 0) (keeps : X → Bool) (xs : List X) → AscendsBy before xs
    → AscendsBy before (filter keeps xs)
ascends_by_left before keeps [] up = tt
ascends_by_left before keeps (x ∷ xs) up =
    let rest = ascends_by_left before keeps xs up.1 in
    cond_both (keeps x) (x ∷ filter keeps xs) _ (AscendsBy before) (λ is. (all_left (before x) keeps xs up.0, rest))
    (λ is. rest)
