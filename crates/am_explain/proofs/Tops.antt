-- The hits of greatest priority that a narrowing leaves, found among the candidates in their order.
use Rattle.std.proofs.Common.{◌≡◌, suc, ℤ, Bool, true, false, not, ◌&&◌, cond, List, [], ◌∷◌, refl, sym, ap, ◌∙◌, subst, length, arith}
use Rattle.std.specs.Prelude.{int_lt}
use Rattle.std.specs.List.{AllByRecursion, filter}
use Rattle.std.specs.Ordering.{is_eq}
use Rattle.std.specs.declared.cmp.Ordering.TheVariants.{Less, Equal, Greater}
use Rattle.std.proofs.Math.Path.{fun_ext}
use Rattle.std.proofs.lemmas.Bool.{false≢true}
use Rattle.std.proofs.lemmas.Bool.Decides.{Decides-int_eq}
use Rattle.std.proofs.lemmas.Int.{ints}
use Rattle.std.proofs.lemmas.List.Elements.{All-from_recursion, recursion_from_All}
use Rattle.std.proofs.lemmas.List.Sorted.{All-permutation, IsPermutation-sym, length_permutation}
use Rattle.am_types.specs.declared.resolve.Hit.{Hit}
use Rattle.am_model.specs.Targets.{top}
use Rattle.am_model.proofs.PriorityLaws.{AreNotAbove, IsFalling, has_priority, of_hit, top_is_all_greatest}
use Rattle.am_model.specs.Accounts.{is_outranked}
use Rattle.am_explain.proofs.Leading.{outranked_by_first}
use Rattle.am_explain.proofs.Orders.{by_priority, kept_hits, place_hit}

-- keeping by one test and then by another is keeping by both
pub filter_both : {X : Type 0} (p q : X → Bool) (xs : List X) → filter q (filter p xs) ≡ filter (λ x. p x && q x) xs
filter_both p q [] = refl
filter_both p q (x ∷ xs) = by (p x) (filter_both p q xs)
  where
    by : (b : Bool) → filter q (filter p xs) ≡ filter (λ x. p x && q x) xs
        → filter q (cond b (x ∷ filter p xs) (filter p xs)) ≡ cond (b && q x) (x ∷ filter (λ x. p x && q x) xs)
        (filter (λ x. p x && q x) xs)
    by true e = ap (λ l. cond (q x) (x ∷ l) l) e
    by false e = e

-- in either order
and_turned : (a b : Bool) → a && b ≡ b && a
and_turned true true = refl
and_turned true false = refl
and_turned false true = refl
and_turned false false = refl

filter_turned : {X : Type 0} (p q : X → Bool) (xs : List X) → filter q (filter p xs) ≡ filter p (filter q xs)
filter_turned {X} p q xs =
    filter_both p q xs ∙ ap (λ (test : X → Bool). filter test xs) (fun_ext (λ x. and_turned (p x) (q x)))
    ∙ sym (filter_both q p xs)

-- tests that answer alike keep the same
pub filter_alike : {X : Type 0} (p q : X → Bool) (xs : List X) → AllByRecursion (λ x. p x ≡ q x) xs → filter p xs
    ≡ filter q xs
filter_alike p q [] a = refl
filter_alike p q (x ∷ xs) a = ap (λ b. cond b (x ∷ filter p xs) (filter p xs)) a.0
    ∙ ap (λ l. cond (q x) (x ∷ l) l) (filter_alike p q xs a.1)

lt_itself : (a : ℤ) → int_lt a a ≡ false
lt_itself a = grind (arith, ints)

module _ (limit : ℤ) where
  -- placing a hit among those of a priority doesn't change their order
  same_place : (h : Hit) (hs : List Hit) → filter (has_priority of_hit limit) (place_hit h hs)
      ≡ filter (has_priority of_hit limit) (h ∷ hs)
  same_place h [] = refl
  same_place h (x ∷ xs) = by (int_lt h.priority x.priority) refl (same_place h xs)
    where
      rest : List Hit
      rest = filter (has_priority of_hit limit) xs

      equal : (y : Hit) → has_priority of_hit limit y ≡ true → y.priority ≡ limit
      equal y e = (Decides-int_eq y.priority limit).0 e

      turn : (a b : Bool) → has_priority of_hit limit h ≡ a → has_priority of_hit limit x ≡ b
          → int_lt h.priority x.priority ≡ true
          → cond b (x ∷ cond a (h ∷ rest) rest) (cond a (h ∷ rest) rest)
          ≡ cond a (h ∷ cond b (x ∷ rest) rest) (cond b (x ∷ rest) rest)
      turn true true is other less =
          absurd (false≢true (sym (lt_itself limit)
          ∙ sym (ap (λ p. int_lt p limit) (equal h is)) ∙ sym (ap (int_lt h.priority) (equal x other)) ∙ less))
      turn true false is other less = refl
      turn false true is other less = refl
      turn false false is other less = refl

      by : (b : Bool) → int_lt h.priority x.priority ≡ b
          → filter (has_priority of_hit limit) (place_hit h xs) ≡ filter (has_priority of_hit limit) (h ∷ xs)
          → filter (has_priority of_hit limit) (cond b (x ∷ place_hit h xs) (h ∷ x ∷ xs))
          ≡ filter (has_priority of_hit limit) (h ∷ x ∷ xs)
      by true less e =
          ap (λ l. cond (has_priority of_hit limit x) (x ∷ l) l) e
          ∙ turn (has_priority of_hit limit h) (has_priority of_hit limit x) refl refl less
      by false less e = refl

  same_order : (hs : List Hit) → filter (has_priority of_hit limit) (by_priority hs)
      ≡ filter (has_priority of_hit limit) hs
  same_order [] = refl
  same_order (h ∷ hs) =
      same_place h (by_priority hs) ∙ ap (λ l. cond (has_priority of_hit limit h) (h ∷ l) l) (same_order hs)

  -- what isn't above the limit has its priority unless it is below
  not_below : (h : Hit) → int_lt limit h.priority ≡ false → not (int_lt h.priority limit) ≡ has_priority of_hit limit h
  not_below h e = by (int_lt h.priority limit) ∙ sym (ap (λ b. is_eq
      (cond (int_lt h.priority limit) Less (cond b Greater Equal))) e)
    where
      by : (b : Bool) → not b ≡ is_eq (cond b Less Equal)
      by true = refl
      by false = refl

  recursion_from_above : (hs : List Hit) → AreNotAbove of_hit limit hs
      → AllByRecursion (λ (h : Hit). int_lt limit h.priority ≡ false) hs
  recursion_from_above [] a = tt
  recursion_from_above (h ∷ hs) a = (a.0, recursion_from_above hs a.1)

  all_not_below : (hs : List Hit) → AllByRecursion (λ (h : Hit). int_lt limit h.priority ≡ false) hs
      → AllByRecursion (λ (h : Hit). not (int_lt h.priority limit) ≡ has_priority of_hit limit h) hs
  all_not_below [] a = tt
  all_not_below (h ∷ hs) a = (not_below h a.0, all_not_below hs a.1)

-- kept, and not outranked by another that is
abbrev pub IsTop : (Hit → Bool) → List Hit → Hit → Bool
IsTop keeps left hit = keeps hit && not (is_outranked hit.priority left)

module _ (keeps : Hit → Bool) (found : List Hit) where
  nothing_left : (left : List Hit) → left ≡ filter keeps (by_priority found) → left ≡ [] → filter keeps found ≡ []
  nothing_left left is none =
      by (filter keeps found) (length_permutation (filter keeps found) (filter keeps (by_priority found))
      (kept_hits keeps found))
    where
      by : (hs : List Hit) → length (filter keeps (by_priority found)) ≡ length hs → hs ≡ []
      by [] e = refl
      by (h ∷ hs) e = absurd (let same : 0 ≡ suc (length hs) = ap (length {A = Hit}) (sym (sym is ∙ none))
          ∙ e in omega (arith, same))

  pub top_of : (left : List Hit) → left ≡ filter keeps (by_priority found) → IsFalling of_hit left
      → filter (IsTop keeps left) found ≡ top left
  top_of [] is falls =
      sym (filter_both keeps (λ (hit : Hit). not (is_outranked hit.priority [])) found)
      ∙ ap (filter (λ (hit : Hit). not (is_outranked hit.priority []))) (nothing_left [] is refl)
  top_of (first ∷ others) is falls =
      let limit = first.priority in
      let left = first ∷ others in
      let above : AllByRecursion (λ (h : Hit). int_lt limit h.priority ≡ false) left =
      (lt_itself limit, recursion_from_above limit others falls.0) in
      let kept : AllByRecursion (λ (h : Hit). int_lt limit h.priority ≡ false) (filter keeps found) =
      recursion_from_All (λ (h : Hit). int_lt limit h.priority ≡ false) (filter keeps found)
      (All-permutation (λ (h : Hit). int_lt limit h.priority ≡ false) (filter keeps (by_priority found))
      (filter keeps found)
      (IsPermutation-sym _ _ (kept_hits keeps found))
      (All-from_recursion (λ (h : Hit). int_lt limit h.priority ≡ false) (filter keeps (by_priority found))
      (subst (AllByRecursion (λ (h : Hit). int_lt limit h.priority ≡ false)) is above))) in
      sym (filter_both keeps (λ (hit : Hit). not (is_outranked hit.priority left)) found)
      ∙ filter_alike (λ (hit : Hit). not (is_outranked hit.priority left))
      (λ (hit : Hit). not (int_lt hit.priority limit)) (filter keeps found)
      (each_by_first first others falls (filter keeps found))
      ∙ filter_alike (λ (hit : Hit). not (int_lt hit.priority limit)) (has_priority of_hit limit) (filter keeps found)
      (all_not_below limit (filter keeps found) kept)
      ∙ filter_turned keeps (has_priority of_hit limit) found
      ∙ ap (filter keeps) (sym (same_order limit found))
      ∙ filter_turned (has_priority of_hit limit) keeps (by_priority found)
      ∙ ap (filter (has_priority of_hit limit)) (sym is)
      ∙ sym (top_is_all_greatest first others falls)
    where
      each_by_first : (first : Hit) (others : List Hit) → IsFalling of_hit (first ∷ others) → (hs : List Hit)
          → AllByRecursion (λ (hit : Hit). not (is_outranked hit.priority (first ∷ others))
          ≡ not (int_lt hit.priority first.priority)) hs
      each_by_first first others falls [] = tt
      each_by_first first others falls (h ∷ hs) =
          (ap not (sym (outranked_by_first h.priority (first ∷ others) falls)), each_by_first first others falls hs)
