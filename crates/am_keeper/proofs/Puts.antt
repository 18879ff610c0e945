-- What a put makes of a list in order.
use Rattle.std.proofs.Common.{◌≡◌, ℕ, zero, suc, ◌+◌, ◌<◌, Bool, true, false, ◌&&◌, IsTrue, List, [], ◌∷◌, length, get_or, set, Result, Ok, Err, IfOk, IfErr, refl, sym, ap, ◌∙◌, subst, arith}
use Rattle.std.specs.declared.cmp.Ordering.{Ordering}
use Rattle.std.specs.declared.cmp.Ordering.TheVariants.{Less, Equal, Greater}
use Rattle.std.specs.Ordering.{is_lt, ordering_reverse, ordering_index}
use Rattle.std.specs.Cmp.{IsTotalOrder}
use Rattle.std.specs.List.{insert}
use Rattle.std.specs.List.Sorted.{IsSearchInRange, IsBinarySearchResult, IsSortedBy, IsNonDecreasingBy}
use Rattle.std.proofs.lemmas.Cmp.{alike_right}
use Rattle.std.proofs.lemmas.List.Sorted.{searchable_from_sorted}
use Rattle.am_keeper.specs.Rows.{beside, put_in, leads, rises}
use Rattle.am_keeper.specs.Places.{IsPlaceOf, IsGapFor}

-- only `Less` is below
less_from_lt : (o : Ordering) → IsTrue (is_lt o) → o ≡ Less
less_from_lt Less h = refl
less_from_lt Equal h = absurd (let e = h in cc)
less_from_lt Greater h = absurd (let e = h in cc)

lt_from_less : (o : Ordering) → o ≡ Less → IsTrue (is_lt o)
lt_from_less o h = rw h refl

pub left_of_and : (a b : Bool) → IsTrue (a && b) → IsTrue a
left_of_and true b h = refl
left_of_and false b h = absurd (let e = h in cc)

pub right_of_and : (a b : Bool) → IsTrue (a && b) → IsTrue b
right_of_and true b h = h
right_of_and false b h = absurd (let e = h in cc)

and_true : (a b : Bool) → IsTrue a → IsTrue b → IsTrue (a && b)
and_true true b h k = k
and_true false b h k = absurd (let e = h in cc)

module _ {X : Type 0} (order : X → X → Ordering) where
  -- behind an item that is before it
  put_in-behind : (x y : X) (ys zs : List X) → order y x ≡ Less → put_in order x ys ≡ zs
      → put_in order x (y ∷ ys) ≡ y ∷ zs
  put_in-behind x y ys zs first rest = rw first (ap (λ zs. y ∷ zs) rest)

  -- over an item that ties
  pub put_in-found : (x : X) (xs : List X) (at : ℕ) → IsPlaceOf order x xs at → put_in order x xs ≡ set xs at x
  put_in-found x [] at p = absurd (omega (arith, p.within))
  put_in-found x (y ∷ ys) zero p = rw (p.ties x) refl
  put_in-found x (y ∷ ys) (suc at) p =
      put_in-behind x y ys (set ys at x) (p.before 0 x (omega arith)) (put_in-found x ys at (record {
        within = omega (arith, p.within);
        before = λ k d h. p.before (suc k) d (omega arith);
        ties = p.ties;
      }))

  -- between those before and those behind
  pub put_in-absent : (x : X) (xs : List X) (at : ℕ) → IsGapFor order x xs at → put_in order x xs ≡ insert xs at x
  put_in-absent x [] zero p = refl
  put_in-absent x [] (suc at) p = absurd (omega (arith, p.within))
  put_in-absent x (y ∷ ys) zero p = rw (p.behind 0 x (omega arith) (omega arith)) refl
  put_in-absent x (y ∷ ys) (suc at) p =
      put_in-behind x y ys (insert ys at x) (p.before 0 x (omega arith)) (put_in-absent x ys at (record {
        within = omega (arith, p.within);
        before = λ k d h. p.before (suc k) d (omega arith);
        behind = λ k d h g. p.behind (suc k) d (omega arith) (omega arith);
      }))

module _ {X : Type 0} (order : X → X → Ordering) (total : IsTotalOrder order) where
  -- what stands before the first of a list in order stands before each
  before_each : (x : X) (xs : List X) → IsTrue (leads order x xs) → IsTrue (rises order xs) → (k : ℕ) (d : X)
      → k < length xs → order x (get_or xs k d) ≡ Less
  before_each x [] first up k d h = absurd (omega arith)
  before_each x (y ∷ ys) first up zero d h = less_from_lt _ first
  before_each x (y ∷ ys) first up (suc k) d h =
      total.trans x y _ (less_from_lt _ first) (before_each y ys (left_of_and _ _ up)
      (right_of_and (leads order y ys) _ up) k d (omega arith))

  -- in a list in order each stands before those behind it
  each_before : (xs : List X) → IsTrue (rises order xs) → (i j : ℕ) (d : X) → i < j → j < length xs
      → order (get_or xs i d) (get_or xs j d) ≡ Less
  each_before [] up i j d low high = absurd (omega arith)
  each_before (x ∷ xs) up i zero d low high = absurd (omega arith)
  each_before (x ∷ xs) up zero (suc j) d low high = before_each x xs (left_of_and _ _ up)
      (right_of_and (leads order x xs) _ up) j d (omega arith)
  each_before (x ∷ xs) up (suc i) (suc j) d low high = each_before xs (right_of_and (leads order x xs) _ up) i j d
      (omega arith) (omega arith)

  ascends : (xs : List X) → IsTrue (rises order xs) → IsSortedBy (λ a b. is_lt (order a b)) xs
  ascends xs up k d low high =
      let less : order (get_or xs k d) (get_or xs (k + 1) d) ≡ Less = each_before xs up k (k + 1) d (omega arith) high
      in
      ap is_lt (total.antisymm (get_or xs (k + 1) d) (get_or xs k d) ∙ ap ordering_reverse less)

  -- a binary search in a list in order ends at the item that ties, or at the gap
  pub searched : (x : X) (xs : List X) → IsTrue (rises order xs) → (r : Result ℕ ℕ) → IsSearchInRange r (length xs)
      → IsBinarySearchResult (λ y. order y x) xs r → IfOk r (IsPlaceOf order x xs) × IfErr r (IsGapFor order x xs)
  searched x xs up (Ok at) within ties = (
    record {
      within = within;
      before = λ k d h. sym (alike_right total (get_or xs at d) x (get_or xs k d) (ties d))
          ∙ each_before xs up k at d h within;
      ties = ties;
    },
    tt,
  )
  searched x xs up (Err at) within parted =
      let rising : IsNonDecreasingBy (λ y. ordering_index (order y x)) xs = searchable_from_sorted total (λ y. y) xs x
      (ascends xs up) in
      let parts = parted rising in (
        tt,
        record {
          within = within;
          before = λ k d h. parts.0 k d (omega arith) h;
          behind = λ k d low high. parts.1 k d
              low high;
        },
      )

  leads-put_in : (x y : X) (xs : List X) → order y x ≡ Less → IsTrue (leads order y xs)
      → IsTrue (leads order y (put_in order x xs))
  leads-put_in x y [] less first = lt_from_less _ less
  leads-put_in x y (z ∷ zs) less first = by (order z x)
    where
      by : (o : Ordering) → IsTrue (leads order y (beside o x z zs (put_in order x zs)))
      by Less = first
      by Equal = lt_from_less _ less
      by Greater = lt_from_less _ less

  leads-alike : (x y : X) (xs : List X) → order y x ≡ Equal → IsTrue (leads order y xs) → IsTrue (leads order x xs)
  leads-alike x y [] ties first = refl
  leads-alike x y (z ∷ zs) ties first = subst (λ o. IsTrue (is_lt o)) (total.congr y x z ties) first

  -- a put keeps the order
  pub rises-put_in : (x : X) (xs : List X) → IsTrue (rises order xs) → IsTrue (rises order (put_in order x xs))
  rises-put_in x [] up = refl
  rises-put_in x (y ∷ ys) up = by (rises-put_in x ys (right_of_and (leads order y ys) _ up)) (order y x) refl
    where
      first : IsTrue (leads order y ys)
      first = left_of_and _ _ up

      by : IsTrue (rises order (put_in order x ys)) → (o : Ordering) → order y x ≡ o
          → IsTrue (rises order (beside o x y ys (put_in order x ys)))
      by more Less is = and_true _ _ (leads-put_in x y ys is first) more
      by more Equal is = and_true _ _ (leads-alike x y ys is first) (right_of_and (leads order y ys) _ up)
      by more Greater is = and_true _ _ (lt_from_less _ (total.antisymm x y ∙ ap ordering_reverse is)) up
