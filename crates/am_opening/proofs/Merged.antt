-- Rights in order that are merged with one more.
use Rattle.std.proofs.Common.{◌≡◌, ℕ, Bool, true, false, not, ◌||◌, cond, eqb, List, [], ◌∷◌, ◌++◌, filter, refl, sym, ap, ◌∙◌, subst, append_assoc}
use Rattle.std.specs.List.{AllByRecursion, list_any}
use Rattle.std.specs.List.Sorted.{IsStrictlySortedBy}
use Rattle.std.specs.Cmp.Lexicographic.{bytes_decides, nat_list_eq_equiv, slice_cmp}
use Rattle.std.specs.Ordering.{nat_cmp, is_lt, ordering_reverse}
use Rattle.std.specs.declared.cmp.Ordering.TheVariants.{Less, Equal, Greater}
use Rattle.std.proofs.lemmas.Bool.{false≢true, and_from, eq-eqb, eqb-true, false_from_ne_true}
use Rattle.std.proofs.lemmas.Map.Lookups.{exact_bytes, exact_unsigned}
use Rattle.am_model.specs.Sound.{right_cmp}
use Rattle.am_model.specs.Texts.{is_same}
use Rattle.am_model.proofs.Rights.{all_less, before_is_less, less_from, right_total, then_equal, turned_less}
use Rattle.am_laws.proofs.Tests.{both}
use Rattle.am_model.specs.Rights.{Right}
use Rattle.am_opening.specs.Merging.{is_before, is_right, place_right, with_right, front, behind_front, unless_first, if_held}

less : (r s : Right) → is_before r s ≡ true → right_cmp r s ≡ Less
less r s e = less_from (right_cmp r s) (sym (before_is_less r s) ∙ e)

-- rights with the same parts
pair_is : (r s : Right) → r.0 ≡ s.0 → r.1 ≡ s.1 → r ≡ s
pair_is r s e f = ap (λ (u : ℕ). (u, r.1)) e ∙ ap (λ (t : List ℕ). (s.0, t)) f

same_is : (r s : Right) → is_right r s ≡ true → s ≡ r
same_is r s e =
    let parts = both (eqb s.0 r.0) (is_same s.1 r.1) e in
    pair_is s r (eqb-true s.0 r.0 parts.0) ((bytes_decides s.1 r.1).0 parts.1)

-- rights that tie are the same
tied_is : (r s : Right) → right_cmp s r ≡ Equal → is_right r s ≡ true
tied_is r s e =
    let parts = then_equal (nat_cmp s.0 r.0) (slice_cmp nat_cmp s.1 r.1) e in
    and_from (eqb s.0 r.0) (is_same s.1 r.1) (eq-eqb s.0 r.0 (exact_unsigned s.0 r.0 parts.0))
    (ap (λ (t : List ℕ). is_same t r.1) (exact_bytes s.1 r.1 parts.1) ∙ nat_list_eq_equiv.refl r.1)

never_itself : (r : Right) → right_cmp r r ≡ Less → ⊥
never_itself r e = let turned : Less ≡ Greater = sym e ∙ right_total.antisymm r r ∙ ap ordering_reverse e in cc

apart : (r s : Right) → right_cmp r s ≡ Less → is_right r s ≡ false
apart r s l = false_from_ne_true (is_right r s) (λ e. never_itself r (subst (λ (t : Right). right_cmp r t ≡ Less) (same_is r s e) l))

apart_back : (r s : Right) → right_cmp s r ≡ Less → is_right r s ≡ false
apart_back r s l = false_from_ne_true (is_right r s) (λ e. never_itself r (subst (λ (t : Right). right_cmp t r ≡ Less) (same_is r s e)
    l))

not_before : (r s : Right) → right_cmp s r ≡ Less → is_before r s ≡ false
not_before r s l = before_is_less r s ∙ ap is_lt (right_total.antisymm r s) ∙ ap (λ o. is_lt (ordering_reverse o)) l

-- neither before it nor the same
behind : (r s : Right) → is_before s r ≡ false → is_right r s ≡ false → right_cmp r s ≡ Less
behind r s e f =
    turned_less (right_cmp s r) (right_cmp r s) (right_total.antisymm s r) (sym (before_is_less s r) ∙ e)
    (λ tied. false≢true (sym f ∙ tied_is r s tied))

-- all rights stand before this one, or behind it
abbrev pub AllBefore : List Right → Right → Type 0
AllBefore rights r = AllByRecursion (λ (s : Right). right_cmp s r ≡ Less) rights

abbrev AllBehind : List Right → Right → Type 0
AllBehind rights r = AllByRecursion (λ (s : Right). right_cmp r s ≡ Less) rights

none_same : (r : Right) (ts : List Right) → AllBehind ts r → list_any (is_right r) ts ≡ false
none_same r [] all = refl
none_same r (t ∷ ts) all = ap (λ b. b || list_any (is_right r) ts) (apart r t all.0) ∙ none_same r ts all.1

others : Right → List Right → List Right
others r rights = filter (λ other. not (is_right r other)) rights

all_kept : (r : Right) (ts : List Right) → AllBehind ts r → others r ts ≡ ts
unfolding others
all_kept r [] all = refl
all_kept r (t ∷ ts) all = ap (λ b. cond (not b) (t ∷ others r ts) (others r ts)) (apart r t all.0)
    ∙ ap (λ l. t ∷ l) (all_kept r ts all.1)

-- a right that stands before is passed
passed : (s r : Right) (rest : List Right) (held : Bool) → right_cmp s r ≡ Less → with_right (s ∷ rest) r held ≡ s
    ∷ with_right rest r held
unfolding others
passed s r rest true l =
    ap (λ b. cond (b || list_any (is_right r) rest) (s ∷ rest) (cond (is_before r s) (r ∷ s ∷ rest)
    (s ∷ place_right r rest))) (apart_back r s l)
    ∙ ap (λ b. cond (list_any (is_right r) rest) (s ∷ rest) (cond b (r ∷ s ∷ rest) (s ∷ place_right r rest)))
    (not_before r s l)
    ∙ by (list_any (is_right r) rest)
  where
    by : (b : Bool) → cond b (s ∷ rest) (s ∷ place_right r rest) ≡ s ∷ cond b rest (place_right r rest)
    by true = refl
    by false = refl
passed s r rest false l = ap (λ b. cond (not b) (s ∷ others r rest) (others r rest)) (apart_back r s l)

-- and so are several
done_passed : (done left : List Right) (r : Right) (held : Bool) → AllBefore done r → with_right (done ++ left) r held
    ≡ done ++ with_right left r held
done_passed [] left r held all = refl
done_passed (s ∷ done) left r held all = passed s r (done ++ left) held all.0
    ∙ ap (λ l. s ∷ l) (done_passed done left r held all.1)

-- and those at the front
front_passed : (left : List Right) (r : Right) (held : Bool) → with_right left r held ≡ front r left
    ++ with_right (behind_front r left) r held
front_passed [] r held = refl
front_passed (s ∷ left) r held = by (is_before s r) refl (front_passed left r held)
  where
    by : (b : Bool) → is_before s r ≡ b → with_right left r held ≡ front r left
        ++ with_right (behind_front r left) r held
        → with_right (s ∷ left) r held ≡ cond b (s ∷ front r left) []
        ++ with_right (cond b (behind_front r left) (s ∷ left)) r held
    by true e rest = passed s r left held (less s r e) ∙ ap (λ l. s ∷ l) rest
    by false e rest = refl

-- the first of them, if there is one, doesn't stand before
abbrev NotFront : Right → List Right → Type 0
NotFront r [] = Unit {0}
NotFront r (s ∷ more) = is_before s r ≡ false

-- where none stands before, the right comes first
here : (rest : List Right) (r : Right) (held : Bool) → IsStrictlySortedBy right_cmp rest → NotFront r rest
    → with_right rest r held ≡ if_held r held ++ unless_first r rest
unfolding IsStrictlySortedBy others
here [] r true sorted front = refl
here [] r false sorted front = refl
here (s ∷ more) r held sorted front = by (is_right r s) refl held
  where
    any : Bool
    any = list_any (is_right r) more

    by : (b : Bool) → is_right r s ≡ b → (held : Bool) → with_right (s ∷ more) r held ≡ if_held r held
        ++ cond b more (s ∷ more)
    by true e true =
        ap (λ b. cond (b || any) (s ∷ more) (cond (is_before r s) (r ∷ s ∷ more) (s ∷ place_right r more))) e
        ∙ ap (λ (x : Right). x ∷ more) (same_is r s e)
    by true e false =
        ap (λ b. cond (not b) (s ∷ others r more) (others r more)) e
        ∙ all_kept r more (subst (λ (x : Right). AllBehind more x) (same_is r s e) sorted.0)
    by false e true =
        let l : right_cmp r s ≡ Less = behind r s front e in
        ap (λ b. cond b (s ∷ more) (cond (is_before r s) (r ∷ s ∷ more) (s ∷ place_right r more)))
        (none_same r (s ∷ more) (l, all_less r s more l sorted.0))
        ∙ ap (λ b. cond b (r ∷ s ∷ more) (s ∷ place_right r more)) (before_is_less r s ∙ ap is_lt l)
    by false e false =
        let l : right_cmp r s ≡ Less = behind r s front e in
        all_kept r (s ∷ more) (l, all_less r s more l sorted.0)

-- behind the front
record IsBehind (r : Right) (rest : List Right) : Type 0 where
  pub sorted : IsStrictlySortedBy right_cmp rest
  pub first : NotFront r rest

behind_is : (left : List Right) (r : Right) → IsStrictlySortedBy right_cmp left → IsBehind r (behind_front r left)
unfolding IsStrictlySortedBy
behind_is [] r sorted = record { sorted = sorted; first = tt }
behind_is (s ∷ left) r sorted = by (is_before s r) refl (behind_is left r sorted.1)
  where
    by : (b : Bool) → is_before s r ≡ b → IsBehind r (behind_front r left)
        → IsBehind r (cond b (behind_front r left) (s ∷ left))
    by true e rest = rest
    by false e rest = record { sorted = sorted; first = e }

left_sorted : (done left : List Right) → IsStrictlySortedBy right_cmp (done ++ left) → IsStrictlySortedBy right_cmp left
unfolding IsStrictlySortedBy
left_sorted [] left sorted = sorted
left_sorted (s ∷ done) left sorted = left_sorted done left sorted.1

-- one more right, where those that are done stand before it
pub merged : (done left : List Right) (r : Right) (held : Bool) → IsStrictlySortedBy right_cmp (done ++ left)
    → AllBefore done r
    → with_right (done ++ left) r held ≡ ((done ++ front r left) ++ if_held r held)
    ++ unless_first r (behind_front r left)
merged done left r held sorted before =
    let rest = behind_is left r (left_sorted done left sorted) in
    done_passed done left r held before
    ∙ ap (λ l. done ++ l) (front_passed left r held ∙ ap (λ l. front r left ++ l)
    (here (behind_front r left) r held rest.sorted rest.first))
    ∙ sym (append_assoc (done ++ front r left) (if_held r held) (unless_first r (behind_front r left))
    ∙ append_assoc done (front r left) (if_held r held ++ unless_first r (behind_front r left)))

-- those that stand before a right stand before one behind it
pub before_next : (rights : List Right) (r next : Right) → right_cmp r next ≡ Less → AllBefore rights r
    → AllBefore rights next
before_next [] r next l all = tt
before_next (s ∷ rights) r next l all = (right_total.trans s r next all.0 l, before_next rights r next l all.1)

both_before : (xs ys : List Right) (r : Right) → AllBefore xs r → AllBefore ys r → AllBefore (xs ++ ys) r
both_before [] ys r all more = more
both_before (x ∷ xs) ys r all more = (all.0, both_before xs ys r all.1 more)

front_before : (left : List Right) (r : Right) → AllBefore (front r left) r
front_before [] r = tt
front_before (s ∷ left) r = by (is_before s r) refl (front_before left r)
  where
    by : (b : Bool) → is_before s r ≡ b → AllBefore (front r left) r → AllBefore (cond b (s ∷ front r left) []) r
    by true e rest = (less s r e, rest)
    by false e rest = tt

held_before : (r next : Right) (held : Bool) → right_cmp r next ≡ Less → AllBefore (if_held r held) next
held_before r next true l = (l, tt)
held_before r next false l = tt

-- and so do those that are done when one more is
pub merged_before : (done left : List Right) (r next : Right) (held : Bool) → AllBefore done r → right_cmp r next ≡ Less
    → AllBefore ((done ++ front r left) ++ if_held r held) next
merged_before done left r next held all l =
    both_before (done ++ front r left) (if_held r held) next
    (before_next (done ++ front r left) r next l (both_before done (front r left) r all (front_before left r)))
    (held_before r next held l)
