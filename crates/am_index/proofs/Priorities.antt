-- Priorities: the greatest, gathered from the front, and the orders of the candidates.
use Rattle.std.proofs.Common.{◌≡◌, ℤ, Bool, true, false, cond, List, [], ◌∷◌, Option, Some, None, refl, sym, ap, ◌∙◌, arith}
use Rattle.std.specs.Prelude.{int_lt}
use Rattle.std.specs.Int.{int_max}
use Rattle.std.specs.Ordering.{is_lt, int_cmp}
use Rattle.std.specs.declared.cmp.Ordering.TheVariants.{Less, Equal, Greater}
use Rattle.std.specs.Cmp.{IsStrictWeakOrder, IsTotalOrder, bool_cmp_total}
use Rattle.std.specs.List.Sorted.{IsSortedBy, IsStableBy}
use Rattle.std.proofs.lemmas.Int.{ints, clamps}
use Rattle.std.proofs.lemmas.Cmp.{back_total, int_cmp_total, nat_cmp_total, nat_list_cmp_total, on_total, then_total}
use Rattle.std.proofs.lemmas.List.Sorted.{ranks_by}
use Rattle.std.specs.declared.cmp.Reverse.{Reverse}
use Rattle.am_types.specs.declared.resolve.Candidate.{Candidate}
use Rattle.am_model.specs.Candidates.{greatest, phone_cmp, phone_order, profile_order}
use Rattle.am_model.specs.Lists.{falling_by, ordered, place_by, placed}
use Rattle.am_index.proofs.Order.{place, insertion, sorted_is_insertion}

-- the best so far, and the best of the rest, if there is one
abbrev pub joined : Option ℤ → Option ℤ → Option ℤ
joined None rest = rest
joined (Some best) rest = Some (greatest best rest)

-- the greater of two, whichever comes first
int_max_comm : (a b : ℤ) → int_max a b ≡ int_max b a
int_max_comm a b = omega (arith, ints, clamps)

-- the greatest of three, however they are joined
int_max_turn : (a b c : ℤ) → int_max (int_max a b) c ≡ int_max b (int_max a c)
int_max_turn a b c = omega (arith, ints, clamps)

-- a priority that joins the best so far might as well join the best of the rest
pub joined-greatest : (priority : ℤ) (best rest : Option ℤ) → joined (Some (greatest priority best)) rest
    ≡ joined best (Some (greatest priority rest))
joined-greatest priority None rest = refl
joined-greatest priority (Some best) None = ap Some (int_max_comm priority best)
joined-greatest priority (Some best) (Some rest) = ap Some (int_max_turn priority best rest)

-- what has the greater priority goes before
abbrev pub before : {X : Type 0} → (X → ℤ) → X → X → Bool
before priority x y = is_lt (int_cmp (priority y) (priority x))

-- which is an order
before_order : {X : Type 0} (priority : X → ℤ) → IsStrictWeakOrder (before priority)
before_order priority = ranks_by (back_total int_cmp_total) priority

-- comparing two numbers gives less exactly if the first is less
less_by_cases : (a b : Bool) → is_lt (cond a Less (cond b Greater Equal)) ≡ a
less_by_cases true b = refl
less_by_cases false true = refl
less_by_cases false false = refl

-- a function places an element after those of greater priority, and another places each in turn in the same way
module _ {X : Type 0} (priority : X → ℤ) (put : X → List X → List X) (order : List X → List X)
    (alone : (x : X) → put x [] ≡ x ∷ [])
    (among : (x first : X) (others : List X) → put x (first ∷ others)
    ≡ cond (int_lt (priority x) (priority first)) (first ∷ put x others) (x ∷ first ∷ others))
    (none : order [] ≡ [])
    (more : (first : X) (others : List X) → order (first ∷ others) ≡ put first (order others)) where
  -- placing by the order of priorities is what it places
  place-put : (x : X) (others : List X) → place (before priority) (before_order priority) x others ≡ put x others
  place-put x [] = sym (alone x)
  place-put x (first ∷ others) =
      ap (λ b. cond b (first ∷ place (before priority) (before_order priority) x others) (x ∷ first ∷ others))
      (less_by_cases (int_lt (priority x) (priority first)) (int_lt (priority first) (priority x)))
      ∙ ap (λ l. cond (int_lt (priority x) (priority first)) (first ∷ l) (x ∷ first ∷ others)) (place-put x others)
      ∙ sym (among x first others)

  -- and so is the whole insertion
  insertion-order : (found : List X) → insertion (before priority) (before_order priority) found ≡ order found
  insertion-order [] = sym none
  insertion-order (first ∷ others) =
      place-put first (insertion (before priority) (before_order priority) others)
      ∙ ap (put first) (insertion-order others) ∙ sym (more first others)

  -- what a stable sort by falling priority gives is that order
  pub sorted_is_order : (found sorted : List X) → IsSortedBy (before priority) sorted
      → IsStableBy (before priority) found sorted → sorted ≡ order found
  sorted_is_order found sorted up stable =
      sorted_is_insertion (before priority) (before_order priority) found sorted up stable ∙ insertion-order found

-- what the profile sorts the candidates by
abbrev pub sort_key : Candidate → Reverse ℤ
sort_key candidate = record { 0 = candidate.hit.priority }

-- the priority of a candidate
abbrev priority_of_hit : Candidate → ℤ
priority_of_hit candidate = candidate.hit.priority

-- what a stable sort by falling priority gives is the profile's order
pub sorted_is_profile_order : (found sorted : List Candidate) → IsSortedBy (before (λ (c : Candidate). c.hit.priority)) sorted
    → IsStableBy (before (λ (c : Candidate). c.hit.priority)) found sorted → sorted ≡ profile_order found
sorted_is_profile_order = sorted_is_order priority_of_hit (place_by priority_of_hit) (falling_by priority_of_hit)
    (λ c. refl) (λ c first others. refl) refl (λ first others. refl)

-- what a stable sort by an order gives is that order
module _ {X : Type 0} (lt : X → X → Bool) (o : IsStrictWeakOrder lt) where
  place-placed : (x : X) (others : List X) → place lt o x others ≡ placed lt x others
  place-placed x [] = refl
  place-placed x (first ∷ others) =
      ap (λ l. cond (lt first x) (first ∷ l) (x ∷ first ∷ others)) (place-placed x others)

  insertion-ordered : (found : List X) → insertion lt o found ≡ ordered lt found
  insertion-ordered [] = refl
  insertion-ordered (first ∷ others) =
      place-placed first (insertion lt o others) ∙ ap (placed lt first) (insertion-ordered others)

  pub sorted_is_ordered : (found sorted : List X) → IsSortedBy lt sorted → IsStableBy lt found sorted
      → sorted ≡ ordered lt found
  sorted_is_ordered found sorted up stable = sorted_is_insertion lt o found sorted up stable ∙ insertion-ordered found

-- a phone's comparison is a total order
pub phone_total : IsTotalOrder phone_cmp
phone_total =
    then_total (back_total (on_total (λ (c : Candidate). c.hit.priority) int_cmp_total))
    (then_total (back_total (on_total (λ (c : Candidate). c.finding.lists_default) bool_cmp_total))
    (then_total (back_total (on_total (λ (c : Candidate). c.finding.reaches) nat_cmp_total))
    (then_total (on_total (λ (c : Candidate). c.hit.component.«package») nat_list_cmp_total)
    (on_total (λ (c : Candidate). c.finding.cut) nat_cmp_total))))

-- one candidate comes before another
abbrev pub phone_before : Candidate → Candidate → Bool
phone_before a b = is_lt (phone_cmp a b)

-- which is an order
pub phone_before_order : IsStrictWeakOrder phone_before
phone_before_order = ranks_by phone_total (λ (c : Candidate). c)

-- what a stable sort by it gives is a phone's order
pub sorted_is_phone_order : (found sorted : List Candidate) → IsSortedBy phone_before sorted
    → IsStableBy phone_before found sorted → sorted ≡ phone_order found
sorted_is_phone_order = sorted_is_ordered phone_before phone_before_order
