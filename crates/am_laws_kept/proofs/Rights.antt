-- Rights, which are a uid and a text each: a list of them in order is what it has.
use Rattle.std.proofs.Common.{◌≡◌, ℕ, Bool, true, false, not, ◌||◌, cond, eqb, List, [], ◌∷◌, map, refl, sym, ap, ◌∙◌, subst}
use Rattle.std.specs.Prelude.{filter, ◌==◌}
use Rattle.std.specs.Cmp.Lexicographic.{bytes_decides, nat_list_eq_equiv, slice_cmp}
use Rattle.std.specs.List.{AllByRecursion}
use Rattle.std.specs.List.Sorted.{IsStrictlySortedBy}
use Rattle.std.specs.Ordering.{nat_cmp, ordering_reverse}
use Rattle.std.specs.declared.cmp.Ordering.{Ordering}
use Rattle.std.specs.declared.cmp.Ordering.TheVariants.{Less, Equal, Greater}
use Rattle.std.proofs.lemmas.Bool.{false≢true, and_parts, and_from, eq-eqb, eqb-true, not_from_true, not_from_false, or_left}
use Rattle.std.proofs.lemmas.Map.Lookups.{exact_bytes, exact_unsigned}
use Rattle.am_model.specs.Sound.{right_cmp}
use Rattle.am_model.specs.Texts.{is_same}
use Rattle.am_model.specs.Lists.{inserted}
use Rattle.am_model.specs.Rights.{Right, has_right as has_right_of, is_right as is_right_of}
use Rattle.am_model.proofs.Lists.{any_inserted}
use Rattle.am_model.proofs.Rights.{all_less, right_total, then_equal}
use Rattle.am_laws_kept.proofs.Placed.{all_weaker, any_left, any_out, none_is}

-- the right is that of a uid and a text
abbrev pub is_right : ℕ → List ℕ → Right → Bool
is_right uid text right = is_right_of (λ (r : Right). r) uid text right

-- then it is these
pub right_is : (uid : ℕ) (text : List ℕ) (r : Right) → is_right uid text r ≡ true → (uid, text) ≡ r
right_is uid text r is =
    let parts = and_parts (eqb r.0 uid) (is_same r.1 text) is in
    let first : r.0 ≡ uid = eqb-true r.0 uid parts.0 in
    let second : r.1 ≡ text = (bytes_decides r.1 text).0 parts.1 in
    ap (λ (u : ℕ). (u, text)) (sym first) ∙ ap (λ (t : List ℕ). (r.0, t)) (sym second)

-- a right is its own
pub right_itself : (r : Right) → is_right r.0 r.1 r ≡ true
right_itself r = and_from (eqb r.0 r.0) (is_same r.1 r.1) (eq-eqb r.0 r.0 refl) (nat_list_eq_equiv.refl r.1)

-- no right stands before itself
not_before_itself : (o : Ordering) → o ≡ ordering_reverse o → o ≡ Less → ⊥
not_before_itself Less e is = cc
not_before_itself Equal e is = cc
not_before_itself Greater e is = cc

-- two rights of which one stands before the other aren't the same
pub right_apart : (uid : ℕ) (text : List ℕ) (r s : Right) → right_cmp r s ≡ Less → is_right uid text r ≡ true
    → is_right uid text s ≡ false
right_apart uid text r s less is = by (is_right uid text s) refl
  where
    by : (b : Bool) → is_right uid text s ≡ b → b ≡ false
    by false also = refl
    by true also =
        let same : s ≡ r = sym (right_is uid text s also) ∙ right_is uid text r is in
        absurd (not_before_itself (right_cmp r r) (right_total.antisymm r r)
        (subst (λ (x : Right). right_cmp r x ≡ Less) same less))

-- rights that tie are the same
pub right_ties : (r s : Right) → right_cmp r s ≡ Equal → r ≡ s
right_ties r s tie =
    let parts = then_equal (nat_cmp r.0 s.0) (slice_cmp nat_cmp r.1 s.1) tie in
    let first : r.0 ≡ s.0 = exact_unsigned r.0 s.0 parts.0 in
    let second : r.1 ≡ s.1 = exact_bytes r.1 s.1 parts.1 in
    ap (λ (u : ℕ). (u, r.1)) first ∙ ap (λ (t : List ℕ). (s.0, t)) second

-- the rights have that of a uid and a text
abbrev has_right : List Right → ℕ → List ℕ → Bool
has_right rights uid text = has_right_of (λ (r : Right). r) rights uid text

-- rights that all stand behind one don't have it
behind_all : (uid : ℕ) (text : List ℕ) (r : Right) (rights : List Right) → is_right uid text r ≡ true
    → AllByRecursion (λ s. right_cmp r s ≡ Less) rights → has_right rights uid text ≡ false
behind_all uid text r rights is all =
    none_is (is_right uid text) rights (all_weaker (λ s. right_cmp r s ≡ Less) (λ s. is_right uid text s ≡ false)
    (λ s less. right_apart uid text r s less is) rights all)

-- rights in order are the same where each of them has what the other has
pub same_rights : (xs ys : List Right) → IsStrictlySortedBy right_cmp xs → IsStrictlySortedBy right_cmp ys
    → ((uid : ℕ) (text : List ℕ) → has_right xs uid text ≡ has_right ys uid text) → xs ≡ ys
unfolding IsStrictlySortedBy
same_rights [] [] up down same = refl
same_rights [] (y ∷ ys) up down same =
    absurd (false≢true (same y.0 y.1 ∙ or_left (is_right y.0 y.1 y) (has_right ys y.0 y.1) (right_itself y)))
same_rights (x ∷ xs) [] up down same =
    absurd (false≢true (sym (same x.0 x.1) ∙ or_left (is_right x.0 x.1 x) (has_right xs x.0 x.1) (right_itself x)))
same_rights (x ∷ xs) (y ∷ ys) up down same = by (right_cmp x y) refl (λ rest. same_rights xs ys up.1 down.1 rest)
  where
    first : is_right x.0 x.1 x || has_right xs x.0 x.1 ≡ true
    first = or_left (is_right x.0 x.1 x) (has_right xs x.0 x.1) (right_itself x)

    second : is_right y.0 y.1 y || has_right ys y.0 y.1 ≡ true
    second = or_left (is_right y.0 y.1 y) (has_right ys y.0 y.1) (right_itself y)

    left : x ≡ y → (uid : ℕ) (text : List ℕ) (b : Bool) → is_right uid text x ≡ b → has_right xs uid text
        ≡ has_right ys uid text
    left tie uid text true is =
        let also : is_right uid text y ≡ true = subst (λ (r : Right). is_right uid text r ≡ true) tie is in
        behind_all uid text x xs is up.0 ∙ sym (behind_all uid text y ys also down.0)
    left tie uid text false is =
        let also : is_right uid text y ≡ false = subst (λ (r : Right). is_right uid text r ≡ false) tie is in
        sym (ap (λ b. b || has_right xs uid text) is) ∙ same uid text ∙ ap (λ b. b || has_right ys uid text) also

    by : (o : Ordering) → right_cmp x y ≡ o → (((uid : ℕ) (text : List ℕ) → has_right xs uid text
        ≡ has_right ys uid text) → xs ≡ ys) → x ∷ xs ≡ y ∷ ys
    by Less less rest =
        absurd (false≢true (sym (behind_all x.0 x.1 x (y ∷ ys) (right_itself x) (less, all_less x y ys less down.0))
        ∙ sym (same x.0 x.1) ∙ first))
    by Equal tie rest =
        let it : x ≡ y = right_ties x y tie in
        ap (λ (r : Right). r ∷ xs) it ∙ ap (λ (l : List Right). y ∷ l)
        (rest (λ uid text. left it uid text (is_right uid text x) refl))
    by Greater more rest =
        let less : right_cmp y x ≡ Less = right_total.antisymm y x ∙ ap ordering_reverse more in
        absurd (false≢true (sym (behind_all y.0 y.1 y (x ∷ xs) (right_itself y) (less, all_less y x xs less up.0))
        ∙ same y.0 y.1 ∙ second))

module _ {X : Type 0} (as_right : X → Right) (before : X → X → Bool) where
  -- it is the right of a uid and a text
  abbrev pub is_at : ℕ → List ℕ → X → Bool
  is_at uid text x = is_right_of as_right uid text x

  -- one of them is the right of a uid and a text
  abbrev pub has : List X → ℕ → List ℕ → Bool
  has xs uid text = has_right_of as_right xs uid text

  -- and so has the list of rights
  pub has_map : (xs : List X) (uid : ℕ) (text : List ℕ) → has_right (map as_right xs) uid text ≡ has xs uid text
  has_map [] uid text = refl
  has_map (x ∷ xs) uid text = ap (λ b. is_at uid text x || b) (has_map xs uid text)

  -- the right given or taken
  abbrev pub given : X → Bool → List X → List X
  given x true xs = cond (has xs (as_right x).0 (as_right x).1) xs (inserted before x xs)
  given x false xs = filter (λ y. not (is_at (as_right x).0 (as_right x).1 y)) xs

  or_is : (a b : Bool) → a || b ≡ cond a true b
  or_is true b = refl
  or_is false b = refl

  -- what is given is had, what is taken isn't, and all else is as before
  pub has_given : (x : X) (held : Bool) (xs : List X) (uid : ℕ) (text : List ℕ) → has (given x held xs) uid text
      ≡ cond (is_at uid text x) held (has xs uid text)
  has_given x true xs uid text = by (has xs (as_right x).0 (as_right x).1) refl (is_at uid text x) refl
    where
      by : (b : Bool) → has xs (as_right x).0 (as_right x).1 ≡ b → (c : Bool) → is_at uid text x ≡ c
          → has (cond b xs (inserted before x xs)) uid text ≡ cond c true (has xs uid text)
      by true listed true is = subst (λ (r : Right). has xs r.0 r.1 ≡ true) (sym (right_is uid text (as_right x) is))
          listed
      by true listed false is = refl
      by false listed c is =
          any_inserted before (is_at uid text) x xs ∙ or_is (is_at uid text x) (has xs uid text)
          ∙ ap (λ b. cond b true (has xs uid text)) is
  has_given x false xs uid text = by (is_at uid text x) refl
    where
      keeps : X → Bool
      keeps y = not (is_at (as_right x).0 (as_right x).1 y)

      by : (c : Bool) → is_at uid text x ≡ c → has (filter keeps xs) uid text ≡ cond c false (has xs uid text)
      by true is =
          any_out (is_at uid text) keeps
          (λ y also. not_from_true _ (subst (λ (r : Right). is_at r.0 r.1 y ≡ true) (right_is uid text (as_right x) is)
          also)) xs
      by false is = any_left (is_at uid text) keeps (λ y also. not_from_false _
          (apart y also (is_at (as_right x).0 (as_right x).1 y) refl)) xs
        where
          apart : (y : X) → is_at uid text y ≡ true → (b : Bool) → is_at (as_right x).0 (as_right x).1 y ≡ b → b ≡ false
          apart y also false same = refl
          apart y also true same =
              let it : as_right x ≡ (uid, text) = right_is (as_right x).0 (as_right x).1 (as_right y) same
              ∙ sym (right_is uid text (as_right y) also) in
              absurd (false≢true (sym is ∙ subst (λ (r : Right). is_right r.0 r.1 (as_right x) ≡ true) it
              (right_itself (as_right x))))

  -- no right of a uid is had where they were left out, and all others are
  pub has_without : (xs : List X) (gone uid : ℕ) (text : List ℕ) → has (filter (λ y. not ((as_right y).0 == gone)) xs)
      uid text ≡ cond (eqb uid gone) false (has xs uid text)
  has_without xs gone uid text = by (eqb uid gone) refl
    where
      keeps : X → Bool
      keeps y = not ((as_right y).0 == gone)

      its : (y : X) → is_at uid text y ≡ true → uid ≡ (as_right y).0
      its y is = ap (λ (r : Right). r.0) (right_is uid text (as_right y) is)

      by : (c : Bool) → eqb uid gone ≡ c → has (filter keeps xs) uid text ≡ cond c false (has xs uid text)
      by true is = any_out (is_at uid text) keeps (λ y also. not_from_true _
          (subst (λ (u : ℕ). eqb u gone ≡ true) (its y also) is)) xs
      by false is = any_left (is_at uid text) keeps (λ y also. not_from_false _
          (subst (λ (u : ℕ). eqb u gone ≡ false) (its y also) is)) xs
