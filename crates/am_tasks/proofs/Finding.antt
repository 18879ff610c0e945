-- What is found, by its place.
use Rattle.std.proofs.Common.{◌≡◌, ℕ, zero, suc, ◌+◌, ◌-◌, ◌<◌, Bool, true, false, cond, ltb, List, [], ◌∷◌, length, get_or, take, reverse, Option, Some, None, IfSome, refl, sym, ap, ◌∙◌, subst, arith}
use Rattle.std.specs.List.{find, position, position_or_len, slice_get, last_or}
use Rattle.std.proofs.lemmas.Bool.{ltb-true, ltb-false}
use Rattle.std.proofs.lemmas.List.{take_more, reverse-append}
use Rattle.std.proofs.lemmas.List.Folds.{find_at}
use Rattle.std.proofs.lemmas.List.Sums.{passes_at_first}
use Rattle.std.proofs.lemmas.Option.{slice_get_past, slice_get-get_or, cond_some}
use Rattle.am_tasks.specs.Finds.{at}

-- at the place of the first that passes is the first that passes
pub found_at : {X : Type 0} (test : X → Bool) (xs : List X) → at xs (position test xs) ≡ find test xs
found_at test xs = by (ltb (position_or_len test xs) (length xs)) refl
  where
    by : (b : Bool) → ltb (position_or_len test xs) (length xs) ≡ b
        → at xs (cond b (Some (position_or_len test xs)) None) ≡ find test xs
    by true is = sym (find_at test xs)
    by false is = sym (find_at test xs ∙ slice_get_past xs (position_or_len test xs) (ltb-false _ _ is))

-- and the place is one of the list
pub found_within : {X : Type 0} (test : X → Bool) (xs : List X) → IfSome (position test xs) (λ k. k < length xs)
found_within test xs = by (ltb (position_or_len test xs) (length xs)) refl
  where
    by : (b : Bool) → ltb (position_or_len test xs) (length xs) ≡ b
        → IfSome (cond b (Some (position_or_len test xs)) None) (λ k. k < length xs)
    by true is = ltb-true _ _ is
    by false is = tt

-- what is known of a place that was found
pub record IsFoundAt {X : Type 0} (test : X → Bool) (xs : List X) (place : ℕ) : Type 0 where
  pub within : place < length xs
  pub is : (d : X) → find test xs ≡ Some (get_or xs place d)
  pub passes : (d : X) → test (get_or xs place d) ≡ true

-- a place that is answered was found
pub place_found : {X : Type 0} (test : X → Bool) (xs : List X) (place : ℕ) → position test xs ≡ Some place
    → IsFoundAt test xs place
place_found {X} test xs place is =
    let parts = cond_some (ltb (position_or_len test xs) (length xs)) (position_or_len test xs) place is in
    let low : position_or_len test xs < length xs = ltb-true _ _ parts.0 in
    subst (λ k. IsFoundAt test xs k) parts.1
    (record {
      within = low;
      is = λ (d : X). find_at test xs ∙ slice_get-get_or xs (position_or_len test xs) d low;
      passes = λ (d : X). passes_at_first test xs d low;
    })

-- nothing is found if no place is returned
pub none_found : {X : Type 0} (test : X → Bool) (xs : List X) → position test xs ≡ None → find test xs ≡ None
none_found test xs none = sym (found_at test xs) ∙ ap (at xs) none

-- the last that passes of a list that grows by one
pub last_found_more : {X : Type 0} (test : X → Bool) (xs : List X) (i : ℕ) (d : X) → i < length xs
    → find test (reverse (take (i + 1) xs)) ≡ cond (test (get_or xs i d)) (Some (get_or xs i d))
    (find test (reverse (take i xs)))
last_found_more test xs i d low = ap (λ l. find test (reverse l)) (take_more xs i d low)
    ∙ ap (find test) (reverse-append (take i xs) (get_or xs i d ∷ []))

-- after a first one, the last one is at the last place
last_behind : {X : Type 0} (x : X) (xs : List X) → slice_get (x ∷ xs) (length xs) ≡ last_or (Some x) xs
last_behind x [] = refl
last_behind x (y ∷ ys) = last_behind y ys

-- the last one is at the last place
pub last_at : {X : Type 0} (xs : List X) → slice_get xs (length xs - 1) ≡ last_or None xs
last_at [] = refl
last_at (x ∷ xs) =
    let place : length (x ∷ xs) - 1 ≡ length xs = omega arith in
    ap (slice_get (x ∷ xs)) place ∙ last_behind x xs

-- the last that passes is the new one, if that passes
pub last_found_yes : {X : Type 0} (test : X → Bool) (xs : List X) (i : ℕ) (x : X) → i < length xs → x ≡ get_or xs i x
    → test x ≡ true
    → slice_get xs i ≡ find test (reverse (take (i + 1) xs))
last_found_yes test xs i x low is passes =
    let found : test (get_or xs i x) ≡ true = ap test (sym is) ∙ passes in
    slice_get-get_or xs i x low ∙ sym (last_found_more test xs i x low
    ∙ ap (λ b. cond b (Some (get_or xs i x)) (find test (reverse (take i xs)))) found)

-- and the one before, if it doesn't
pub last_found_no : {X : Type 0} (test : X → Bool) (xs : List X) (i : ℕ) (x : X) (found : Option ℕ) → i < length xs → x
    ≡ get_or xs i x → test x ≡ false
    → at xs found ≡ find test (reverse (take i xs)) → at xs found ≡ find test (reverse (take (i + 1) xs))
last_found_no test xs i x found low is fails before =
    let failed : test (get_or xs i x) ≡ false = ap test (sym is) ∙ fails in
    before ∙ sym (last_found_more test xs i x low ∙ ap (λ b. cond b (Some (get_or xs i x))
    (find test (reverse (take i xs)))) failed)

-- something is at a place of the list
pub at_there : {X : Type 0} (xs : List X) (k : ℕ) → k < length xs → (x : X) × (slice_get xs k ≡ Some x)
at_there [] k low = absurd (omega arith)
at_there (x ∷ xs) zero low = (x, refl)
at_there (x ∷ xs) (suc k) low = at_there xs k (omega arith)
