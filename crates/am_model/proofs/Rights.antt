-- The order of rights, in which they stay whatever changes.
use Rattle.std.proofs.Common.{◌≡◌, ℕ, Bool, true, false, not, ◌&&◌, ◌||◌, cond, ltb, eqb, List, [], ◌∷◌, map, filter, refl, sym, ap, ◌∙◌, subst}
use Rattle.std.specs.Cmp.{IsTotalOrder, nat_cmp_total, on_total, then_total}
use Rattle.std.specs.Cmp.Lexicographic.{nat_list_cmp_total, nat_list_eq_equiv, slice_cmp}
use Rattle.std.specs.List.{AllByRecursion}
use Rattle.std.specs.List.Sorted.{IsStrictlySortedBy}
use Rattle.std.specs.Ordering.{nat_cmp, is_lt, ordering_reverse, ordering_then}
use Rattle.std.specs.declared.cmp.Ordering.{Ordering}
use Rattle.std.specs.declared.cmp.Ordering.TheVariants.{Less, Equal, Greater}
use Rattle.std.proofs.lemmas.Bool.{false≢true, eq-eqb, and_from, or_parts}
use Rattle.std.proofs.lemmas.Map.Lookups.{exact_bytes, exact_unsigned}
use Rattle.am_model.specs.Lists.{inserted}
use Rattle.am_model.specs.Rights.{Right, before_right, has_right, is_right, stands_before, with_right}
use Rattle.am_model.specs.Sound.{right_cmp}
use Rattle.am_model.specs.Texts.{is_same}
use Rattle.am_model.proofs.Lists.{all_map_filter, all_map_inserted}

-- rights are told apart by uid and text
pub right_total : IsTotalOrder right_cmp
right_total = then_total (on_total (λ (r : Right). r.0) nat_cmp_total)
    (on_total (λ (r : Right). r.1) nat_list_cmp_total)

-- a right stands before another where the order says so
pub before_is_less : (r s : Right) → stands_before r.0 r.1 s.0 s.1 ≡ is_lt (right_cmp r s)
before_is_less r s = by (ltb r.0 s.0) (eqb r.0 s.0) (slice_cmp nat_cmp r.1 s.1)
  where
    by : (l e : Bool) (o : Ordering) → (l || (e && is_lt o)) ≡ is_lt
        (ordering_then (cond l Less (cond e Equal Greater)) o)
    by true e o = refl
    by false true o = refl
    by false false o = refl

-- what is less stands before
pub less_from : (o : Ordering) → is_lt o ≡ true → o ≡ Less
less_from Less e = refl
less_from Equal e = absurd (false≢true e)
less_from Greater e = absurd (false≢true e)

-- what neither stands before nor is the same stands behind
pub turned_less : (o p : Ordering) → o ≡ ordering_reverse p → is_lt o ≡ false → (o ≡ Equal → ⊥) → p ≡ Less
turned_less Less p e l n = absurd (false≢true (sym l))
turned_less Equal p e l n = absurd (n refl)
turned_less Greater Less e l n = refl
turned_less Greater Equal e l n = cc
turned_less Greater Greater e l n = cc

-- what stands before one stands before those behind it
pub all_less : (r s : Right) (rest : List Right) → right_cmp r s ≡ Less
    → AllByRecursion (λ (t : Right). right_cmp s t ≡ Less) rest → AllByRecursion (λ (t : Right). right_cmp r t ≡ Less)
    rest
all_less r s [] l a = tt
all_less r s (t ∷ rest) l a = (right_total.trans r s t l a.0, all_less r s rest l a.1)

-- both comparisons of rights that tie do
pub then_equal : (o p : Ordering) → ordering_then o p ≡ Equal → (o ≡ Equal) × (p ≡ Equal)
then_equal Less p e = cc
then_equal Equal p e = (refl, e)
then_equal Greater p e = cc

-- a right that ties with another has its uid and its text
same_uid : (u v : ℕ) (s t : List ℕ) → right_cmp (u, s) (v, t) ≡ Equal → eqb v u ≡ true
same_uid u v s t e = eq-eqb v u (sym (exact_unsigned u v (then_equal _ _ e).0))

same_text : (u v : ℕ) (s t : List ℕ) → right_cmp (u, s) (v, t) ≡ Equal → is_same t s ≡ true
same_text u v s t e = ap (λ (x : List ℕ). is_same t x) (exact_bytes s t
    (then_equal (nat_cmp u v) (slice_cmp nat_cmp s t) e).1) ∙ nat_list_eq_equiv.refl t

module _ {R : Type 0} (right_of : R → Right) where
  -- each of the rights stands before the next
  abbrev pub AreInOrder : List R → Type 0
  AreInOrder rights = IsStrictlySortedBy right_cmp (map right_of rights)

  -- none of the rights ties with that one
  abbrev IsNone : Right → List R → Type 0
  IsNone r rights = AllByRecursion (λ (s : R). right_cmp r (right_of s) ≡ Equal → ⊥) rights

  none_is : (uid : ℕ) (text : List ℕ) (rights : List R) → has_right right_of rights uid text ≡ false
      → IsNone (uid, text) rights
  none_is uid text [] e = tt
  none_is uid text (s ∷ rest) e =
      let parts = or_parts (is_right right_of uid text s) (has_right right_of rest uid text) e in
      let r : Right = right_of s in (
        λ tied. false≢true (sym parts.0 ∙ and_from (eqb r.0 uid) (is_same r.1 text) (same_uid uid r.0 text r.1 tied)
            (same_text uid r.0 text r.1 tied)),
        none_is uid text rest parts.1,
      )

  inserted_in_order : (r : R) (rights : List R) → AreInOrder rights → IsNone (right_of r) rights
      → AreInOrder (inserted (before_right right_of) r rights)
  unfolding IsStrictlySortedBy
  inserted_in_order r [] sorted none = (tt, tt)
  inserted_in_order r (s ∷ rest) sorted none = by (before_right right_of r s) refl
      (inserted_in_order r rest sorted.1 none.1)
    where
      by : (b : Bool) → before_right right_of r s ≡ b → AreInOrder (inserted (before_right right_of) r rest)
          → AreInOrder (cond b (r ∷ s ∷ rest) (s ∷ inserted (before_right right_of) r rest))
      by true e h =
          let less : right_cmp (right_of r) (right_of s) ≡ Less = less_from (right_cmp (right_of r) (right_of s))
          (sym (before_is_less (right_of r) (right_of s)) ∙ e) in
          ((less, all_less (right_of r) (right_of s) (map right_of rest) less sorted.0), sorted)
      by false e h =
          let less : right_cmp (right_of s) (right_of r) ≡ Less =
          turned_less (right_cmp (right_of r) (right_of s)) (right_cmp (right_of s) (right_of r))
          (right_total.antisymm (right_of r) (right_of s))
          (sym (before_is_less (right_of r) (right_of s)) ∙ e) none.0 in (
            all_map_inserted (before_right right_of) right_of (λ (t : Right). right_cmp (right_of s) t ≡ Less) r rest
                less sorted.0,
            h,
          )

  -- rights stay in order when some go
  pub fewer_in_order : (p : R → Bool) (rights : List R) → AreInOrder rights → AreInOrder (filter p rights)
  unfolding IsStrictlySortedBy
  fewer_in_order p [] sorted = tt
  fewer_in_order p (r ∷ rest) sorted = by (p r) (fewer_in_order p rest sorted.1)
    where
      by : (b : Bool) → AreInOrder (filter p rest) → AreInOrder (cond b (r ∷ filter p rest) (filter p rest))
      by true h = (all_map_filter p right_of (λ (t : Right). right_cmp (right_of r) t ≡ Less) rest sorted.0, h)
      by false h = h

  -- and when one is given or taken away
  pub with_in_order : (made : ℕ → List ℕ → R) → ((uid : ℕ) (text : List ℕ) → right_of (made uid text) ≡ (uid, text))
      → (rights : List R) (uid : ℕ) (text : List ℕ) (held : Bool)
      → AreInOrder rights → AreInOrder (with_right right_of made rights uid text held)
  with_in_order made made_is rights uid text false sorted = fewer_in_order
      (λ (r : R). not (is_right right_of uid text r)) rights sorted
  with_in_order made made_is rights uid text true sorted = by (has_right right_of rights uid text) refl
    where
      by : (b : Bool) → has_right right_of rights uid text ≡ b → AreInOrder
          (cond b rights (inserted (before_right right_of) (made uid text) rights))
      by true e = sorted
      by false e =
          inserted_in_order (made uid text) rights sorted
          (subst (λ (r : Right). IsNone r rights) (sym (made_is uid text)) (none_is uid text rights e))
