-- Texts that are put in their places one after the other are in order, each once.
use Rattle.std.proofs.Common.{◌≡◌, ℕ, ◌+◌, ◌≤◌, List, [], ◌∷◌, length, fold, refl, ap, ◌∙◌, arith, nat_cmp}
use Rattle.std.specs.declared.cmp.Ordering.{Ordering}
use Rattle.std.specs.declared.cmp.Ordering.TheVariants.{Less, Equal, Greater}
use Rattle.std.specs.List.{AllByRecursion}
use Rattle.std.specs.List.Sorted.{IsStrictlySortedBy}
use Rattle.std.specs.BTreeSet.{insert_key}
use Rattle.std.specs.Cmp.{IsTotalOrder}
use Rattle.std.specs.Cmp.Lexicographic.{slice_cmp}
use Rattle.std.specs.Ordering.{match_ordering, ordering_reverse}

module _ {K : Type 0} (cmp : K → K → Ordering) where
  pub length_put : (k : K) (ks : List K) → length (insert_key cmp ks k) ≤ length ks + 1
  length_put k [] = omega arith
  length_put k (x ∷ xs) = by (cmp k x) (length_put k xs)
    where
      by : (r : Ordering) → length (insert_key cmp xs k) ≤ length xs + 1
          → length (match_ordering r (k ∷ x ∷ xs) (x ∷ xs) (x ∷ insert_key cmp xs k)) ≤ length (x ∷ xs) + 1
      by Less h = omega arith
      by Equal h = omega arith
      by Greater h = omega arith

  -- what holds of all keys and of one more
  all_put : (P : K → Type 0) (k : K) (ks : List K) → AllByRecursion P ks → P k → AllByRecursion P (insert_key cmp ks k)
  all_put P k [] a p = (p, tt)
  all_put P k (x ∷ xs) a p = by (cmp k x) (all_put P k xs a.1 p)
    where
      by : (r : Ordering) → AllByRecursion P (insert_key cmp xs k)
          → AllByRecursion P (match_ordering r (k ∷ x ∷ xs) (x ∷ xs) (x ∷ insert_key cmp xs k))
      by Less h = (p, a)
      by Equal h = a
      by Greater h = (a.0, h)

  module _ (laws : IsTotalOrder cmp) where
    -- a key below the first one is below all
    below_all : (k x : K) (xs : List K) → cmp k x ≡ Less → AllByRecursion (λ y. cmp x y ≡ Less) xs
        → AllByRecursion (λ y. cmp k y ≡ Less) xs
    below_all k x [] l a = tt
    below_all k x (y ∷ ys) l a = (laws.trans k x y l a.0, below_all k x ys l a.1)

    pub sorted_put : (k : K) (ks : List K) → IsStrictlySortedBy cmp ks → IsStrictlySortedBy cmp (insert_key cmp ks k)
    unfolding IsStrictlySortedBy
    sorted_put k [] s = (tt, tt)
    sorted_put k (x ∷ xs) s = by (cmp k x) refl (sorted_put k xs s.1)
      where
        by : (r : Ordering) → cmp k x ≡ r → IsStrictlySortedBy cmp (insert_key cmp xs k)
            → IsStrictlySortedBy cmp (match_ordering r (k ∷ x ∷ xs) (x ∷ xs) (x ∷ insert_key cmp xs k))
        by Less e t = ((e, below_all k x xs e s.0), s)
        by Equal e t = s
        by Greater e t = (all_put (λ y. cmp x y ≡ Less) k xs s.0 (laws.antisymm x k ∙ ap ordering_reverse e), t)

-- sorting doesn't make texts more
pub length_sorted : (front texts : List (List ℕ)) → length (fold (insert_key (slice_cmp nat_cmp)) front texts) ≤ length
    front + length texts
length_sorted front [] = omega arith
length_sorted front (text ∷ texts) = omega (
  arith,
  length_put (slice_cmp nat_cmp) text front,
  length_sorted
      (insert_key (slice_cmp nat_cmp) front text) texts,
)
