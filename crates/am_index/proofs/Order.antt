-- A stable sort is insertion in turn.
use Rattle.std.proofs.Common.{◌≡◌, ℕ, suc, ◌+◌, Bool, true, false, not, ◌&&◌, cond, List, [], ◌∷◌, get_or, refl, sym, ap, ◌∙◌, subst, arith}
use Rattle.std.specs.List.{filter}
use Rattle.std.specs.Cmp.{IsStrictWeakOrder}
use Rattle.std.specs.List.Sorted.{IsSortedBy, IsStableBy, ties}
use Rattle.std.proofs.lemmas.Bool.{false≢true}

-- what holds of both answers of a test
by_test : (P : Bool → Type 0) (b : Bool) → (b ≡ true → P true) → (b ≡ false → P false) → P b
by_test P true at_true at_false = at_true refl
by_test P false at_true at_false = at_false refl

-- a test that can't succeed fails
not_true : (b : Bool) → (b ≡ true → ⊥) → b ≡ false
not_true true never = absurd (never refl)
not_true false never = refl

-- no test both succeeds and fails
never_both : (b : Bool) → b ≡ true → b ≡ false → ⊥
never_both b t f = false≢true (sym f ∙ t)

-- if neither of two tests succeeds, both fail
both_false : (a b : Bool) → not a && not b ≡ true → (a ≡ false) × (b ≡ false)
both_false true b e = absurd (false≢true e)
both_false false true e = absurd (false≢true e)
both_false false false e = (refl, refl)

-- two elements of which one test keeps at most one may be exchanged before it
turned : {X : Type 0} (a b : Bool) (x y : X) (rest : List X) → (a ≡ true → b ≡ true → ⊥)
    → cond a (x ∷ cond b (y ∷ rest) rest) (cond b (y ∷ rest) rest)
    ≡ cond b (y ∷ cond a (x ∷ rest) rest) (cond a (x ∷ rest) rest)
turned true true x y rest never = absurd (never refl refl)
turned true false x y rest never = refl
turned false true x y rest never = refl
turned false false x y rest never = refl

-- what comes after an element that is kept, or left out, in both lists
same_tail : {X : Type 0} (b : Bool) (x : X) (xs ys : List X) → cond b (x ∷ xs) xs ≡ cond b (x ∷ ys) ys → xs ≡ ys
same_tail true x xs ys e = cc
same_tail false x xs ys e = e

module _ {X : Type 0} (lt : X → X → Bool) (o : IsStrictWeakOrder lt) where
  -- no element is less than x
  abbrev Above : X → List X → Type 0
  Above x [] = Unit {0}
  Above x (y ∷ ys) = (lt y x ≡ false) × Above x ys

  -- no element is less than one before it
  abbrev Rises : List X → Type 0
  Rises [] = Unit {0}
  Rises (x ∷ xs) = Above x xs × Rises xs

  -- an element after those that are less, in front of the others
  abbrev pub place : X → List X → List X
  place x [] = x ∷ []
  place x (y ∷ ys) = cond (lt y x) (y ∷ place x ys) (x ∷ y ∷ ys)

  -- each element placed among those after it
  abbrev pub insertion : List X → List X
  insertion [] = []
  insertion (x ∷ xs) = place x (insertion xs)

  -- no element is less than itself
  itself : (x : X) → lt x x ≡ false
  itself x = not_true (lt x x) (λ e. never_both (lt x x) e (o.one_way x x e))

  -- each element ties with itself
  tied_itself : (x : X) → ties lt x x ≡ true
  tied_itself x = ap (λ b. not b && not b) (itself x)

  -- what is above y is above each x that y is above
  Above-weaker : (x y : X) (zs : List X) → lt y x ≡ false → Above y zs → Above x zs
  Above-weaker x y [] h a = tt
  Above-weaker x y (z ∷ zs) h a = (o.chain z y x a.0 h, Above-weaker x y zs h a.1)

  -- placing an element that is above x keeps the list above x
  Above-place : (x y : X) (zs : List X) → lt y x ≡ false → Above x zs → Above x (place y zs)
  Above-place x y [] h a = (h, tt)
  Above-place x y (z ∷ zs) h a =
      by_test (λ b. Above x (cond b (z ∷ place y zs) (y ∷ z ∷ zs))) (lt z y) (λ _. (a.0, Above-place x y zs h a.1))
      (λ _. (h, a))

  -- placing an element keeps a list in order
  Rises-place : (x : X) (ys : List X) → Rises ys → Rises (place x ys)
  Rises-place x [] r = (tt, tt)
  Rises-place x (y ∷ ys) r =
      by_test (λ b. Rises (cond b (y ∷ place x ys) (x ∷ y ∷ ys))) (lt y x)
      (λ e. (Above-place y x ys (o.one_way y x e) r.0, Rises-place x ys r.1))
      (λ e. ((e, Above-weaker x y ys e r.0), r))

  -- an insertion is in order
  Rises-insertion : (xs : List X) → Rises (insertion xs)
  Rises-insertion [] = tt
  Rises-insertion (x ∷ xs) = Rises-place x (insertion xs) (Rises-insertion xs)

  -- what a sort ensures of neighbours holds along the list
  Rises-from_sorted : (xs : List X) → IsSortedBy lt xs → Rises xs
  Rises-from_sorted [] s = tt
  Rises-from_sorted (x ∷ []) s = (tt, tt)
  Rises-from_sorted (x ∷ y ∷ ys) s =
      let first : lt y x ≡ false = s 0 x (omega arith) (omega arith) in
      let rest : Rises (y ∷ ys) = Rises-from_sorted (y ∷ ys) (λ k d low high.
      let next : suc k + 1 ≡ suc (k + 1) = omega arith in
      subst (λ (n : ℕ). lt (get_or (x ∷ y ∷ ys) n d) (get_or (y ∷ ys) k d) ≡ false) next
      (s (suc k) d (omega arith) (omega arith))) in
      ((first, Above-weaker x y ys first rest.0), rest)

  -- placing keeps the order of each tie
  filter-place : (w x : X) (ys : List X) → filter (ties lt w) (place x ys) ≡ filter (ties lt w) (x ∷ ys)
  filter-place w x [] = refl
  filter-place w x (y ∷ ys) =
      let p = ties lt w in
      let rest = filter p ys in
      by_test (λ b. filter p (cond b (y ∷ place x ys) (x ∷ y ∷ ys)) ≡ filter p (x ∷ y ∷ ys)) (lt y x)
      (λ e. ap (λ l. cond (p y) (y ∷ l) l) (filter-place w x ys)
      ∙ turned (p y) (p x) y x rest (λ at_y at_x. never_both (lt y x) e
      (o.chain y w x (both_false (lt w y) (lt y w) at_y).1 (both_false (lt w x) (lt x w) at_x).0)))
      (λ e. refl)

  -- and so does an insertion
  filter-insertion : (w : X) (xs : List X) → filter (ties lt w) (insertion xs) ≡ filter (ties lt w) xs
  filter-insertion w [] = refl
  filter-insertion w (x ∷ xs) =
      filter-place w x (insertion xs) ∙ ap (λ l. cond (ties lt w x) (x ∷ l) l) (filter-insertion w xs)

  -- nothing that ties with y comes after a z above it
  none_tied : (y z : X) (zs : List X) → lt y z ≡ true → Above z zs → filter (ties lt y) zs ≡ []
  none_tied y z [] e a = refl
  none_tied y z (w ∷ zs) e a =
      let missed : ties lt y w ≡ false = not_true (ties lt y w) (λ at_w. never_both (lt y z) e
      (o.chain y w z (both_false (lt y w) (lt w y) at_w).0 a.0)) in
      let rest = filter (ties lt y) zs in
      ap (λ b. cond b (w ∷ rest) rest) missed ∙ none_tied y z zs e a.1

  -- the same from z on
  none_tied_from : (y z : X) (zs : List X) → lt y z ≡ true → Above z zs → filter (ties lt y) (z ∷ zs) ≡ []
  none_tied_from y z zs e a =
      let rest = filter (ties lt y) zs in
      ap (λ b. cond (not b && not (lt z y)) (z ∷ rest) rest) e ∙ none_tied y z zs e a

  -- an element is the first of its own tie in a list that it begins
  kept_first : (y : X) (ys : List X) → filter (ties lt y) (y ∷ ys) ≡ y ∷ filter (ties lt y) ys
  kept_first y ys = let rest = filter (ties lt y) ys in ap (λ b. cond b (y ∷ rest) rest) (tied_itself y)

  -- a list with a first element isn't empty
  not_empty : (y : X) (ys : List X) → y ∷ ys ≡ [] → ⊥
  not_empty y ys e = cc

  -- one list has one first element
  same_first : (y z : X) (ys zs : List X) → y ∷ ys ≡ z ∷ zs → y ≡ z
  same_first y z ys zs e = cc

  -- two lists in order, of which each tie has the same elements in the same order, are one
  one_order : (ys zs : List X) → Rises ys → Rises zs → ((w : X) → filter (ties lt w) ys ≡ filter (ties lt w) zs) → ys
      ≡ zs
  one_order [] [] r s h = refl
  one_order [] (z ∷ zs) r s h = absurd (not_empty z _ (sym (h z ∙ kept_first z zs)))
  one_order (y ∷ ys) [] r s h = absurd (not_empty y _ (sym (kept_first y ys) ∙ h y))
  one_order (y ∷ ys) (z ∷ zs) r s h =
      by_test (λ _. y ∷ ys ≡ z ∷ zs) (lt y z)
      (λ e. absurd (not_empty y _ (sym (kept_first y ys) ∙ h y ∙ none_tied_from y z zs e s.0)))
      (λ e. by_test (λ _. y ∷ ys ≡ z ∷ zs) (lt z y)
      (λ f. absurd (not_empty z _ (sym (h z ∙ kept_first z zs) ∙ none_tied_from z y ys f r.0)))
      (λ f.
      let tied : ties lt y z ≡ true = ap (λ b. not b && not (lt z y)) e ∙ ap not f in
      let rest = filter (ties lt y) zs in
      let first : y ≡ z = same_first y z _ _ (sym (kept_first y ys) ∙ h y ∙ ap (λ b. cond b (z ∷ rest) rest) tied) in
      let tails : ys ≡ zs = one_order ys zs r.1 s.1 (λ w. same_tail (ties lt w y) y _ _
      (h w ∙ ap (λ x. cond (ties lt w x) (x ∷ filter (ties lt w) zs) (filter (ties lt w) zs)) (sym first))) in
      cc))

  -- what a stable sort gives is the insertion
  pub sorted_is_insertion : (xs ys : List X) → IsSortedBy lt ys → IsStableBy lt xs ys → ys ≡ insertion xs
  sorted_is_insertion xs ys s t =
      one_order ys (insertion xs) (Rises-from_sorted ys s) (Rises-insertion xs) (λ w. t w ∙ sym (filter-insertion w xs))
