-- The spots of two tests merged are those for which one or the other succeeds.
use Rattle.std.proofs.Common.{◌≡◌, ◌<◌, Bool, true, false, ◌&&◌, ◌||◌, cond, ltb, eqb, List, [], ◌∷◌, ◌++◌, refl, ap, ◌∙◌, arith, eq-eqb, ◌⊎◌, inl, inr}
use Rattle.std.specs.List.{AllByRecursion}
use Rattle.std.proofs.lemmas.Bool.{ltb-true, eqb-true}
use Rattle.am_index.specs.declared.key.Spot.{Spot}
use Rattle.am_index.specs.Lookups.{stands_before, same_spot, spots_before, spots_after, without_first, merged}
use Rattle.am_index.specs.Members.{Member, spot_of, spots_where}
use Rattle.am_index.proofs.Same.{both}
use Rattle.am_index.proofs.Ordered.{Before, InOrder}

-- one spot comes before another, in terms of numbers
abbrev Stands : Spot → Spot → Type 0
Stands a b = (a.uid < b.uid) ⊎ ((a.uid ≡ b.uid) × (a.position < b.position))

means : (a b : Spot) (t : Bool) → ltb a.uid b.uid ≡ t → (t || (eqb a.uid b.uid && ltb a.position b.position)) ≡ true
    → Stands a b
means a b true p h = inl (ltb-true a.uid b.uid p)
means a b false p h =
    let parts = both (eqb a.uid b.uid) (ltb a.position b.position) h in
    inr (eqb-true a.uid b.uid parts.0, ltb-true a.position b.position parts.1)

never_both : (a b : Spot) → Stands a b → Stands b a → ⊥
never_both a b (inl p) (inl q) = omega arith
never_both a b (inl p) (inr q) = let same : b.uid ≡ a.uid = q.0 in omega arith
never_both a b (inr p) (inl q) = let same : a.uid ≡ b.uid = p.0 in omega arith
never_both a b (inr p) (inr q) = let lower : a.position < b.position = p.1 in let upper : b.position < a.position = q.1
    in omega arith

not_true : (t : Bool) → (t ≡ true → ⊥) → t ≡ false
not_true true h = absurd (h refl)
not_true false h = refl

-- what comes before a spot doesn't come after it
not_after : (a b : Spot) → stands_before a b ≡ true → stands_before b a ≡ false
not_after a b h =
    not_true (stands_before b a) (λ e. never_both a b (means a b (ltb a.uid b.uid) refl h)
    (means b a (ltb b.uid a.uid) refl e))

-- no spot comes before itself
not_itself : (a : Spot) → stands_before a a ≡ false
not_itself a = not_true (stands_before a a) (λ e. never_both a a (means a a (ltb a.uid a.uid) refl e)
    (means a a (ltb a.uid a.uid) refl e))

apart_from : (a b : Spot) → Stands a b → b.uid ≡ a.uid → b.position ≡ a.position → ⊥
apart_from a b (inl p) u v = omega arith
apart_from a b (inr p) u v = let lower : a.position < b.position = p.1 in omega arith

-- and is another
not_same : (a b : Spot) → stands_before a b ≡ true → same_spot b a ≡ false
not_same a b h =
    not_true (same_spot b a) (λ e.
    let parts = both (eqb b.uid a.uid) (eqb b.position a.position) e in
    apart_from a b (means a b (ltb a.uid b.uid) refl h) (eqb-true b.uid a.uid parts.0)
    (eqb-true b.position a.position parts.1))

same_itself : (a : Spot) → same_spot a a ≡ true
same_itself a = ap (λ t. t && eqb a.position a.position) (eq-eqb a.uid a.uid refl) ∙ eq-eqb a.position a.position refl

-- the spot comes before all of them
abbrev BeforeAll : Spot → List Spot → Type 0
BeforeAll spot spots = AllByRecursion (λ (s : Spot). stands_before spot s ≡ true) spots

none_before : (spot : Spot) (ys : List Spot) → BeforeAll spot ys → spots_before spot ys ≡ []
none_before spot [] h = refl
none_before spot (y ∷ ys) h = ap (λ t. cond t (y ∷ spots_before spot ys) []) (not_after spot y h.0)

all_after : (spot : Spot) (ys : List Spot) → BeforeAll spot ys → spots_after spot ys ≡ ys
all_after spot [] h = refl
all_after spot (y ∷ ys) h =
    ap (λ t. cond t (spots_after spot ys) (without_first spot (y ∷ ys))) (not_after spot y h.0)
    ∙ ap (λ t. cond t ys (y ∷ ys)) (not_same spot y h.0)

merged_first : (x : Spot) (xs ys : List Spot) → BeforeAll x ys → merged (x ∷ xs) ys ≡ x ∷ merged xs ys
merged_first x xs ys h =
    ap (λ l. l ++ x ∷ merged xs (spots_after x ys)) (none_before x ys h) ∙ ap (λ l. x ∷ merged xs l) (all_after x ys h)

merged_both : (x : Spot) (xs ys : List Spot) → merged (x ∷ xs) (x ∷ ys) ≡ x ∷ merged xs ys
merged_both x xs ys =
    ap (λ t. cond t (x ∷ spots_before x ys) [] ++ x ∷ merged xs (cond t (spots_after x ys) (without_first x (x ∷ ys))))
    (not_itself x)
    ∙ ap (λ t. x ∷ merged xs (cond t ys (x ∷ ys))) (same_itself x)

merged_second : (y : Spot) (xs ys : List Spot) → BeforeAll y xs → merged xs (y ∷ ys) ≡ y ∷ merged xs ys
merged_second y [] ys h = refl
merged_second y (x ∷ xs) ys h =
    ap (λ t. cond t (y ∷ spots_before x ys) [] ++ x ∷ merged xs (cond t (spots_after x ys) (without_first x (y ∷ ys))))
    h.0

before_where : (test : Member → Bool) (spot : Spot) (ms : List Member) → Before spot ms
    → BeforeAll spot (spots_where test ms)
before_where test spot [] h = tt
before_where test spot (m ∷ ms) h = by (test m) (before_where test spot ms h.1)
  where
    by : (t : Bool) → BeforeAll spot (spots_where test ms) → BeforeAll spot
        (cond t (spot_of m ∷ spots_where test ms) (spots_where test ms))
    by true rest = (h.0, rest)
    by false rest = rest

module _ (p q : Member → Bool) where
  -- the spots of two tests merged are those of either
  pub merged_where : (ms : List Member) → InOrder ms → merged (spots_where p ms) (spots_where q ms)
      ≡ spots_where (λ m. p m || q m) ms
  merged_where [] o = refl
  merged_where (m ∷ ms) o = by (p m) (q m) (merged_where ms o.1)
    where
      by : (a b : Bool) → merged (spots_where p ms) (spots_where q ms) ≡ spots_where (λ m. p m || q m) ms
          → merged (cond a (spot_of m ∷ spots_where p ms) (spots_where p ms))
          (cond b (spot_of m ∷ spots_where q ms) (spots_where q ms))
          ≡ cond (a || b) (spot_of m ∷ spots_where (λ m. p m || q m) ms) (spots_where (λ m. p m || q m) ms)
      by true true ih = merged_both (spot_of m) (spots_where p ms) (spots_where q ms) ∙ ap (λ l. spot_of m ∷ l) ih
      by true false ih = merged_first (spot_of m) (spots_where p ms) (spots_where q ms)
          (before_where q (spot_of m) ms o.0) ∙ ap (λ l. spot_of m ∷ l) ih
      by false true ih = merged_second (spot_of m) (spots_where p ms) (spots_where q ms)
          (before_where p (spot_of m) ms o.0) ∙ ap (λ l. spot_of m ∷ l) ih
      by false false ih = ih
