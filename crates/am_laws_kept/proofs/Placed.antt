-- Lists in order, into which something is put in its place, and of which something is left out.
use Rattle.std.proofs.Common.{◌≡◌, Bool, true, false, ◌||◌, cond, List, [], ◌∷◌, refl, sym, ap, ◌∙◌}
use Rattle.std.specs.Prelude.{filter}
use Rattle.std.specs.List.{AllByRecursion, list_any}
use Rattle.std.proofs.lemmas.Bool.{false≢true}
use Rattle.am_model.specs.Lists.{AscendsBy, inserted}
use Rattle.am_model.proofs.Lists.{all_left, ascends_by_left}

-- what follows from what holds of each holds of all
pub all_weaker : {X : Type 0} (P Q : X → Type 0) → ((x : X) → P x → Q x) → (xs : List X) → AllByRecursion P xs
    → AllByRecursion Q xs
all_weaker P Q weaker [] all = tt
all_weaker P Q weaker (x ∷ xs) all = (weaker x all.0, all_weaker P Q weaker xs all.1)

-- in which order two are left out doesn't count
pub left_either : {X : Type 0} (one other : X → Bool) (xs : List X) → filter one (filter other xs)
    ≡ filter other (filter one xs)
left_either one other [] = refl
left_either one other (x ∷ xs) = by (one x) (other x) refl refl (left_either one other xs)
  where
    by : (b c : Bool) → one x ≡ b → other x ≡ c → filter one (filter other xs) ≡ filter other (filter one xs)
        → filter one (cond c (x ∷ filter other xs) (filter other xs))
        ≡ filter other (cond b (x ∷ filter one xs) (filter one xs))
    by true true is also rest =
        ap (λ b. cond b (x ∷ filter one (filter other xs)) (filter one (filter other xs))) is ∙ ap (λ l. x ∷ l) rest
        ∙ sym (ap (λ b. cond b (x ∷ filter other (filter one xs)) (filter other (filter one xs))) also)
    by true false is also rest = rest ∙ sym (ap (λ b. cond b (x ∷ filter other (filter one xs))
        (filter other (filter one xs))) also)
    by false true is also rest = ap (λ b. cond b (x ∷ filter one (filter other xs)) (filter one (filter other xs))) is
        ∙ rest
    by false false is also rest = rest

-- a test of what is left, where all that pass it are left
pub any_left : {X : Type 0} (test keeps : X → Bool) → ((x : X) → test x ≡ true → keeps x ≡ true) → (xs : List X)
    → list_any test (filter keeps xs) ≡ list_any test xs
any_left test keeps stays [] = refl
any_left test keeps stays (x ∷ xs) = by (keeps x) (test x) refl refl (any_left test keeps stays xs)
  where
    by : (b c : Bool) → keeps x ≡ b → test x ≡ c → list_any test (filter keeps xs) ≡ list_any test xs
        → list_any test (cond b (x ∷ filter keeps xs) (filter keeps xs)) ≡ c || list_any test xs
    by true c is also rest = ap (λ b. b || list_any test (filter keeps xs)) also ∙ ap (λ b. c || b) rest
    by false true is also rest = absurd (false≢true (sym is ∙ stays x also))
    by false false is also rest = rest

-- and where none that passes it is left
pub any_out : {X : Type 0} (test keeps : X → Bool) → ((x : X) → test x ≡ true → keeps x ≡ false) → (xs : List X)
    → list_any test (filter keeps xs) ≡ false
any_out test keeps goes [] = refl
any_out test keeps goes (x ∷ xs) = by (keeps x) (test x) refl refl (any_out test keeps goes xs)
  where
    by : (b c : Bool) → keeps x ≡ b → test x ≡ c → list_any test (filter keeps xs) ≡ false
        → list_any test (cond b (x ∷ filter keeps xs) (filter keeps xs)) ≡ false
    by true true is also rest = absurd (false≢true (sym (goes x also) ∙ is))
    by true false is also rest = ap (λ b. b || list_any test (filter keeps xs)) also ∙ rest
    by false c is also rest = rest

-- a test that all of some fail
pub none_is : {X : Type 0} (test : X → Bool) (xs : List X) → AllByRecursion (λ x. test x ≡ false) xs → list_any test xs
    ≡ false
none_is test [] all = refl
none_is test (x ∷ xs) all = ap (λ b. b || list_any test xs) all.0 ∙ none_is test xs all.1

module _ {X : Type 0} (before : X → X → Bool) where
  -- each stands before those behind it
  abbrev pub Ascends : List X → Type 0
  Ascends xs = AscendsBy (λ x y. before x y ≡ true) xs

  -- fewer are in order
  pub ascends_left : (keeps : X → Bool) (xs : List X) → Ascends xs → Ascends (filter keeps xs)
  ascends_left keeps xs up = ascends_by_left (λ x y. before x y ≡ true) keeps xs up

  -- what stands before all comes first
  pub inserted_first : (x : X) (xs : List X) → AllByRecursion (λ y. before x y ≡ true) xs → inserted before x xs ≡ x
      ∷ xs
  inserted_first x [] all = refl
  inserted_first x (y ∷ ys) all = ap (λ b. cond b (x ∷ y ∷ ys) (y ∷ inserted before x ys)) all.0

  -- what is left out counts for nothing when it came
  pub inserted_out : (keeps : X → Bool) (x : X) (xs : List X) → keeps x ≡ false → filter keeps (inserted before x xs)
      ≡ filter keeps xs
  inserted_out keeps x [] out = ap (λ b. cond b (x ∷ []) []) out
  inserted_out keeps x (y ∷ ys) out = by (before x y) (inserted_out keeps x ys out)
    where
      by : (b : Bool) → filter keeps (inserted before x ys) ≡ filter keeps ys
          → filter keeps (cond b (x ∷ y ∷ ys) (y ∷ inserted before x ys)) ≡ filter keeps (y ∷ ys)
      by true rest = ap (λ b. cond b (x ∷ filter keeps (y ∷ ys)) (filter keeps (y ∷ ys))) out
      by false rest = ap (λ l. cond (keeps y) (y ∷ l) l) rest

  module _ (through : (x y z : X) → before x y ≡ true → before y z ≡ true → before x z ≡ true) where
    -- what stands before one stands before those behind it
    all_through : (x y : X) (ys : List X) → before x y ≡ true → AllByRecursion (λ z. before y z ≡ true) ys
        → AllByRecursion (λ z. before x z ≡ true) ys
    all_through x y ys first all = all_weaker (λ z. before y z ≡ true) (λ z. before x z ≡ true)
        (λ z. through x y z first) ys all

    -- one that stays comes to the same place among those that are left
    pub inserted_left : (keeps : X → Bool) (x : X) (xs : List X) → keeps x ≡ true → Ascends xs
        → filter keeps (inserted before x xs) ≡ inserted before x (filter keeps xs)
    inserted_left keeps x [] stays up = ap (λ b. cond b (x ∷ []) []) stays
    inserted_left keeps x (y ∷ ys) stays up = by (before x y) (keeps y) refl refl (inserted_left keeps x ys stays up.1)
      where
        first : before x y ≡ true → AllByRecursion (λ z. before x z ≡ true) (y ∷ ys)
        first less = (less, all_through x y ys less up.0)

        by : (b c : Bool) → before x y ≡ b → keeps y ≡ c → filter keeps (inserted before x ys)
            ≡ inserted before x (filter keeps ys)
            → filter keeps (cond b (x ∷ y ∷ ys) (y ∷ inserted before x ys))
            ≡ inserted before x (cond c (y ∷ filter keeps ys) (filter keeps ys))
        by true c less kept rest =
            ap (λ b. cond b (x ∷ filter keeps (y ∷ ys)) (filter keeps (y ∷ ys))) stays
            ∙ sym (inserted_first x (filter keeps (y ∷ ys)) (all_left (λ z. before x z ≡ true) keeps (y ∷ ys)
            (first less)))
            ∙ ap (λ c. inserted before x (cond c (y ∷ filter keeps ys) (filter keeps ys))) kept
        by false true less kept rest =
            ap (λ c. cond c (y ∷ filter keeps (inserted before x ys)) (filter keeps (inserted before x ys))) kept
            ∙ ap (λ l. y ∷ l) rest
            ∙ sym (ap (λ b. cond b (x ∷ y ∷ filter keeps ys) (y ∷ inserted before x (filter keeps ys))) less)
        by false false less kept rest =
            ap (λ c. cond c (y ∷ filter keeps (inserted before x ys)) (filter keeps (inserted before x ys))) kept ∙ rest

    -- with one more, before or behind each of the others, they are in order
    pub ascends_inserted : (x : X) (xs : List X) → AllByRecursion (λ y. before x y ≡ false → before y x ≡ true) xs
        → Ascends xs → Ascends (inserted before x xs)
    ascends_inserted x [] apart up = (tt, tt)
    ascends_inserted x (y ∷ ys) apart up = by (before x y) refl (ascends_inserted x ys apart.1 up.1)
      where
        behind : (zs : List X) → before y x ≡ true → AllByRecursion (λ z. before y z ≡ true) zs
            → AllByRecursion (λ z. before y z ≡ true) (inserted before x zs)
        behind [] less all = (less, tt)
        behind (z ∷ zs) less all = both (before x z) (behind zs less all.1)
          where
            both : (b : Bool) → AllByRecursion (λ w. before y w ≡ true) (inserted before x zs)
                → AllByRecursion (λ w. before y w ≡ true) (cond b (x ∷ z ∷ zs) (z ∷ inserted before x zs))
            both true rest = (less, all)
            both false rest = (all.0, rest)

        by : (b : Bool) → before x y ≡ b → Ascends (inserted before x ys)
            → Ascends (cond b (x ∷ y ∷ ys) (y ∷ inserted before x ys))
        by true less rest = ((less, all_through x y ys less up.0), up)
        by false less rest = (behind ys (apart.0 less) up.0, rest)
