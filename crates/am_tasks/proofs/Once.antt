-- Lists in which each number occurs once.
use Rattle.std.proofs.Common.{◌≡◌, ℕ, zero, suc, ◌+◌, ◌<◌, ◌≤◌, Bool, true, false, not, cond, List, [], ◌∷◌, length, get_or, set, take, map, refl, sym, ap, ◌∙◌, subst, arith}
use Rattle.std.specs.Prelude.{◌==◌}
use Rattle.std.specs.List.{filter, count_by, sum_by, take_while, remove}
use Rattle.std.proofs.lemmas.Bool.{eq-eqb, ne_eqb, not_from_false, not_from_true}
use Rattle.std.proofs.lemmas.List.{get_or-take, length-take-le}
use Rattle.std.proofs.lemmas.List.Sums.{sum_by-cons, get_or-le-sum_by, sum_by_more_le, prefix_len_is}

-- one for a test that succeeds
abbrev pub tick : Bool → ℕ
tick b = cond b 1 0

module _ {X : Type 0} (number : X → ℕ) where
  -- how many have that number
  abbrev pub counted : ℕ → List X → ℕ
  counted n xs = count_by (λ x. number x == n) xs

  -- one more in front
  counted-cons : (n : ℕ) (x : X) (xs : List X) → counted n (x ∷ xs) ≡ tick (number x == n) + counted n xs
  counted-cons n x xs = sum_by-cons (λ x. tick (number x == n)) x xs

  -- one with its own number counts
  counted_itself : (x : X) → tick (number x == number x) ≡ 1
  counted_itself x = rw (eq-eqb (number x) (number x) refl) refl

  -- what is in a list is counted
  pub counted_at : (xs : List X) (place : ℕ) (d : X) → place < length xs → 1 ≤ counted (number (get_or xs place d)) xs
  counted_at xs place d low =
      let one = counted_itself (get_or xs place d) in
      let least = get_or-le-sum_by (λ x. tick (number x == number (get_or xs place d))) xs place d low in
      omega arith

  -- if none has that number, leaving it out leaves all
  pub none_left_out : (n : ℕ) (xs : List X) → counted n xs ≡ 0 → filter (λ x. not (number x == n)) xs ≡ xs
  none_left_out n [] none = refl
  none_left_out n (x ∷ xs) none = by (number x == n) refl (none_left_out n xs)
    where
      by : (b : Bool) → (number x == n) ≡ b → (counted n xs ≡ 0 → filter (λ x. not (number x == n)) xs ≡ xs)
          → cond (not b) (x ∷ filter (λ x. not (number x == n)) xs) (filter (λ x. not (number x == n)) xs) ≡ x ∷ xs
      by true is rest = let count : 1 + counted n xs ≡ 0 = (ap (λ b. tick b + counted n xs) (sym is)
          ∙ sym (counted-cons n x xs)) ∙ none in absurd (omega arith)
      by false is rest = let count : 0 + counted n xs ≡ 0 = (ap (λ b. tick b + counted n xs) (sym is)
          ∙ sym (counted-cons n x xs)) ∙ none in ap (λ l. x ∷ l) (rest (omega arith))

  -- and changing those changes none
  pub none_changed : (change : X → X) (n : ℕ) (xs : List X) → counted n xs ≡ 0
      → map (λ x. cond (number x == n) (change x) x) xs ≡ xs
  none_changed change n [] none = refl
  none_changed change n (x ∷ xs) none = by (number x == n) refl (none_changed change n xs)
    where
      by : (b : Bool) → (number x == n) ≡ b → (counted n xs ≡ 0 → map (λ x. cond (number x == n) (change x) x) xs ≡ xs)
          → cond b (change x) x ∷ map (λ x. cond (number x == n) (change x) x) xs ≡ x ∷ xs
      by true is rest = let count : 1 + counted n xs ≡ 0 = (ap (λ b. tick b + counted n xs) (sym is)
          ∙ sym (counted-cons n x xs)) ∙ none in absurd (omega arith)
      by false is rest = let count : 0 + counted n xs ≡ 0 = (ap (λ b. tick b + counted n xs) (sym is)
          ∙ sym (counted-cons n x xs)) ∙ none in ap (λ l. x ∷ l) (rest (omega arith))

  -- each number occurs at most once
  pub record IsOnce (xs : List X) : Type 0 where
    pub once : (n : ℕ) → counted n xs ≤ 1

  -- also in the rest
  once_in_rest : (x : X) (xs : List X) → IsOnce (x ∷ xs) → IsOnce xs
  once_in_rest x xs is = record { once = λ (n : ℕ). let all = counted-cons n x xs in omega (arith, is.once n) }

  -- the first's number isn't in the rest
  first_alone : (x : X) (xs : List X) → IsOnce (x ∷ xs) → counted (number x) xs ≡ 0
  first_alone x xs is =
      let all = counted-cons (number x) x xs in
      let one = counted_itself x in
      omega (arith, is.once (number x))

  -- nor is one of the rest the first's
  rest_apart : (x : X) (xs : List X) (place : ℕ) (d : X) → IsOnce (x ∷ xs) → place < length xs
      → (number x == number (get_or xs place d)) ≡ false
  rest_apart x xs place d is low = ne_eqb _ _ (λ same.
      let none : counted (number (get_or xs place d)) xs ≡ 0 = subst (λ n. counted n xs ≡ 0) same (first_alone x xs is)
      in
      let some = counted_at xs place d low in
      omega arith)

  -- the one at a place is left out by its number
  pub left_out : (xs : List X) (place : ℕ) (d : X) → IsOnce xs → place < length xs
      → filter (λ x. not (number x == number (get_or xs place d))) xs ≡ remove xs place
  left_out [] place d is low = absurd (omega arith)
  left_out (x ∷ xs) zero d is low = rw (eq-eqb (number x) (number x) refl)
      (none_left_out (number x) xs (first_alone x xs is))
  left_out (x ∷ xs) (suc place) d is low =
      let below : place < length xs = omega arith in
      rw (rest_apart x xs place d is below) (ap (λ l. x ∷ l) (left_out xs place d (once_in_rest x xs is) below))

  -- the one at a place is changed by its number
  pub changed_at : (change : X → X) (xs : List X) (place : ℕ) (d : X) → IsOnce xs → place < length xs
      → map (λ x. cond (number x == number (get_or xs place d)) (change x) x) xs
      ≡ set xs place (change (get_or xs place d))
  changed_at change [] place d is low = absurd (omega arith)
  changed_at change (x ∷ xs) zero d is low = rw (eq-eqb (number x) (number x) refl)
      (ap (λ l. change x ∷ l) (none_changed change (number x) xs (first_alone x xs is)))
  changed_at change (x ∷ xs) (suc place) d is low =
      let below : place < length xs = omega arith in
      rw (rest_apart x xs place d is below) (ap (λ l. x ∷ l) (changed_at change xs place d (once_in_rest x xs is)
      below))

  -- what is in front of a place has other numbers
  apart_before : (xs : List X) (k place : ℕ) (d : X) → IsOnce xs → k < place → place < length xs
      → (number (get_or xs k d) == number (get_or xs place d)) ≡ false
  apart_before xs k place d is before low = ne_eqb _ _ (λ same.
      let f : X → ℕ = λ x. tick (number x == number (get_or xs place d)) in
      let most = sum_by_more_le f xs place d low in
      let front : f (get_or (take place xs) k d) ≤ sum_by f (take place xs) =
      get_or-le-sum_by f (take place xs) k d (omega (arith, length-take-le place xs (omega arith))) in
      let first : f (get_or (take place xs) k d) ≡ 1 = ap f (get_or-take place xs k d before)
      ∙ rw (eq-eqb _ _ same) refl in
      let second : f (get_or xs place d) ≡ 1 = counted_itself (get_or xs place d) in
      omega (arith, is.once (number (get_or xs place d))))

  -- what is below the one at a place is what is in front of it
  pub stands_below : (xs : List X) (place : ℕ) (d : X) → IsOnce xs → place < length xs
      → take_while (λ x. not (number x == number (get_or xs place d))) xs ≡ take place xs
  stands_below xs place d is low =
      ap (λ n. take n xs)
      (prefix_len_is (λ x. not (number x == number (get_or xs place d))) xs place d (omega arith)
      (λ k before. not_from_false _ (apart_before xs k place d is before low))
      (λ _. not_from_true _ (eq-eqb _ _ refl)))
