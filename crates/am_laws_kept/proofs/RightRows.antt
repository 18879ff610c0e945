-- Rows of rights: what they say of a right, and what a put changes of that.
use Rattle.std.proofs.Common.{◌≡◌, ℕ, Bool, true, false, not, ◌&&◌, cond, eqb, List, [], ◌∷◌, map, refl, sym, ap, ◌∙◌, subst}
use Rattle.std.specs.Prelude.{filter, IsTrue, ◌==◌}
use Rattle.std.specs.List.{AllByRecursion, fold}
use Rattle.std.specs.List.Sorted.{IsStrictlySortedBy}
use Rattle.std.specs.Ordering.{ordering_reverse, is_lt}
use Rattle.std.specs.declared.cmp.Ordering.{Ordering}
use Rattle.std.specs.declared.cmp.Ordering.TheVariants.{Less, Equal, Greater}
use Rattle.am_model.specs.Sound.{right_cmp}
use Rattle.am_model.specs.Rights.{Right}
use Rattle.am_model.proofs.Rights.{right_total}
use Rattle.am_keeper.specs.Rows.{beside, put_in, leads, rises}
use Rattle.am_keeper.proofs.Puts.{left_of_and, right_of_and}
use Rattle.am_laws_kept.proofs.Placed.{all_weaker}
use Rattle.am_laws_kept.proofs.Rights.{given, has, has_given, has_map, has_without, is_right, right_apart, right_is, right_ties, same_rights}

-- only `Less` is below
less_from_lt : (o : Ordering) → IsTrue (is_lt o) → o ≡ Less
less_from_lt Less h = refl
less_from_lt Equal h = absurd (let e = h in cc)
less_from_lt Greater h = absurd (let e = h in cc)

-- the first of rows in order stands before all others
pub first_is_before : {Row : Type 0} (order : Row → Row → Ordering)
    → ((x y z : Row) → order x y ≡ Less → order y z ≡ Less → order x z ≡ Less)
    → (x : Row) (rows : List Row) → IsTrue (leads order x rows) → IsTrue (rises order rows)
    → AllByRecursion (λ y. order x y ≡ Less) rows
first_is_before order through x [] first up = tt
first_is_before order through x (y ∷ ys) first up =
    let less = less_from_lt (order x y) first in (
      less,
      all_weaker (λ z. order y z ≡ Less) (λ z. order x z ≡ Less) (λ z more. through x y z less more) ys
          (first_is_before order through y ys (left_of_and (leads order y ys) (rises order ys) up)
          (right_of_and (leads order y ys) (rises order ys) up)),
    )

module _ {Row : Type 0} (right_of : Row → Right) (held : Row → Bool) where
  -- what is said of a right after one more row, where some rows count
  abbrev pub told : (Row → Bool) → ℕ → List ℕ → Bool → Row → Bool
  told lives uid text b row = cond (lives row && is_right uid text (right_of row)) (held row) b

  -- rows in order of their rights
  abbrev pub by_right : Row → Row → Ordering
  by_right x y = right_cmp (right_of x) (right_of y)

  module _ (lives : Row → Bool) (uid : ℕ) (text : List ℕ) where
    -- rows of other rights say nothing
    none_told : (b : Bool) (rows : List Row) → AllByRecursion (λ row. is_right uid text (right_of row) ≡ false) rows
        → fold (told lives uid text) b rows ≡ b
    none_told b [] all = refl
    none_told b (row ∷ rows) all =
        ap (λ (c : Bool). fold (told lives uid text) c rows) (ap (λ (c : Bool). cond (lives row && c) (held row) b)
        all.0 ∙ other (lives row))
        ∙ none_told b rows all.1
      where
        other : (c : Bool) → cond (c && false) (held row) b ≡ b
        other true = refl
        other false = refl

    -- nor do those behind a row of the right
    behind_told : (x : Row) (rows : List Row) → is_right uid text (right_of x) ≡ true
        → AllByRecursion (λ y. by_right x y ≡ Less) rows
        → AllByRecursion (λ row. is_right uid text (right_of row) ≡ false) rows
    behind_told x rows is all =
        all_weaker (λ y. by_right x y ≡ Less) (λ y. is_right uid text (right_of y) ≡ false)
        (λ y less. right_apart uid text (right_of x) (right_of y) less is) rows all

    -- after a put the row that was put counts for its right
    pub put_told : (x : Row) (b : Bool) (rows : List Row) → lives x ≡ true → IsTrue (rises by_right rows)
        → fold (told lives uid text) b (put_in by_right x rows) ≡ cond (is_right uid text (right_of x)) (held x)
        (fold (told lives uid text) b rows)
    put_told x b [] live up = ap (λ c. cond (c && is_right uid text (right_of x)) (held x) b) live
    put_told x b (y ∷ ys) live up =
        by (by_right y x) refl (put_told x (told lives uid text b y) ys live
        (right_of_and (leads by_right y ys) (rises by_right ys) up))
      where
        after : Bool → List Row → Bool
        after c rows = fold (told lives uid text) c rows

        behind : AllByRecursion (λ z. by_right y z ≡ Less) ys
        behind =
            first_is_before by_right (λ p q r. right_total.trans (right_of p) (right_of q) (right_of r)) y ys
            (left_of_and (leads by_right y ys) (rises by_right ys) up)
            (right_of_and (leads by_right y ys) (rises by_right ys) up)

        itself : told lives uid text b x ≡ cond (is_right uid text (right_of x)) (held x) b
        itself = ap (λ c. cond (c && is_right uid text (right_of x)) (held x) b) live

        off : (c : Bool) → cond (c && false) (held y) b ≡ b
        off true = refl
        off false = refl

        tied : right_of y ≡ right_of x → (c : Bool) → is_right uid text (right_of x) ≡ c
            → fold (told lives uid text) (cond c (held x) b) ys ≡ cond c (held x)
            (fold (told lives uid text) (told lives uid text b y) ys)
        tied same true is = none_told (held x) ys (behind_told y ys
            (subst (λ (r : Right). is_right uid text r ≡ true) (sym same) is) behind)
        tied same false is =
            let other : is_right uid text (right_of y) ≡ false = subst (λ (r : Right). is_right uid text r ≡ false)
            (sym same) is in
            ap (λ (c : Bool). fold (told lives uid text) c ys) (sym
            (ap (λ (c : Bool). cond (lives y && c) (held y) b) other ∙ off (lives y)))

        before : by_right x y ≡ Less → (c : Bool) → is_right uid text (right_of x) ≡ c
            → fold (told lives uid text) (cond c (held x) b) (y ∷ ys)
            ≡ cond c (held x) (fold (told lives uid text) b (y ∷ ys))
        before less true is =
            none_told (held x) (y ∷ ys)
            (behind_told x (y ∷ ys) is (
              less,
              all_weaker (λ z. by_right y z ≡ Less) (λ z. by_right x z ≡ Less)
                  (λ z more. right_total.trans (right_of x) (right_of y) (right_of z) less more) ys behind,
            ))
        before less false is = refl

        by : (o : Ordering) → by_right y x ≡ o
            → fold (told lives uid text) (told lives uid text b y) (put_in by_right x ys)
            ≡ cond (is_right uid text (right_of x)) (held x) (fold (told lives uid text) (told lives uid text b y)
            ys)
            → fold (told lives uid text) b (beside o x y ys (put_in by_right x ys))
            ≡ cond (is_right uid text (right_of x)) (held x) (fold (told lives uid text) b (y ∷ ys))
        by Less less rest = rest
        by Equal tie rest =
            ap (λ (c : Bool). fold (told lives uid text) c ys) itself
            ∙ tied (right_ties (right_of y) (right_of x) tie) (is_right uid text (right_of x)) refl
        by Greater more rest =
            ap (λ (c : Bool). fold (told lives uid text) c (y ∷ ys)) itself
            ∙ before (right_total.antisymm (right_of x) (right_of y) ∙ ap ordering_reverse more)
            (is_right uid text (right_of x)) refl

    -- where the same rows of the right count, the same is said
    pub same_told : (others : Row → Bool) (b : Bool) (rows : List Row)
        → AllByRecursion (λ row. is_right uid text (right_of row) ≡ true → lives row ≡ others row) rows
        → fold (told lives uid text) b rows ≡ fold (told others uid text) b rows
    same_told others b [] all = refl
    same_told others b (row ∷ rows) all =
        ap (λ (c : Bool). fold (told lives uid text) c rows) (by (is_right uid text (right_of row)) refl)
        ∙ same_told others (told others uid text b row) rows all.1
      where
        off : (c : Bool) → cond (c && false) (held row) b ≡ b
        off true = refl
        off false = refl

        by : (c : Bool) → is_right uid text (right_of row) ≡ c → told lives uid text b row ≡ told others uid text b row
        by true is = ap (λ (c : Bool). cond (c && is_right uid text (right_of row)) (held row) b) (all.0 is)
        by false is =
            ap (λ (c : Bool). cond (lives row && c) (held row) b) is ∙ off (lives row)
            ∙ sym (ap (λ (c : Bool). cond (others row && c) (held row) b) is ∙ off (others row))

    -- where none of the right counts, nothing is said
    pub nothing_told : (b : Bool) (rows : List Row) → AllByRecursion
        (λ row. is_right uid text (right_of row) ≡ true → lives row ≡ false) rows
        → fold (told lives uid text) b rows ≡ b
    nothing_told b [] all = refl
    nothing_told b (row ∷ rows) all = ap (λ (c : Bool). fold (told lives uid text) c rows)
        (by (is_right uid text (right_of row)) refl) ∙ nothing_told b rows all.1
      where
        off : (c : Bool) → cond (c && false) (held row) b ≡ b
        off true = refl
        off false = refl

        by : (c : Bool) → is_right uid text (right_of row) ≡ c → told lives uid text b row ≡ b
        by true is = ap (λ (c : Bool). cond (c && is_right uid text (right_of row)) (held row) b) (all.0 is)
        by false is = ap (λ (c : Bool). cond (lives row && c) (held row) b) is ∙ off (lives row)

-- what rows make of rights: a row that counts gives or takes its right
module _ {X Row : Type 0} (as_right : X → Right) (before : X → X → Bool) (key : Row → X) (held : Row → Bool)
    (lives : Row → Bool) where
  abbrev pub after_right : List X → Row → List X
  after_right xs row = cond (lives row) (given as_right before (key row) (held row) xs) xs

  -- a right is had after rows if they say so
  pub has_after : (uid : ℕ) (text : List ℕ) (xs : List X) (rows : List Row)
      → has as_right before (fold after_right xs rows) uid text
      ≡ fold (told (λ row. as_right (key row)) held lives uid text) (has as_right before xs uid text) rows
  has_after uid text xs [] = refl
  has_after uid text xs (row ∷ rows) =
      has_after uid text (after_right xs row) rows
      ∙ ap (λ (b : Bool). fold (told (λ row. as_right (key row)) held lives uid text) b rows) (by (lives row))
    where
      by : (c : Bool) → has as_right before (cond c (given as_right before (key row) (held row) xs) xs) uid text
          ≡ cond (c && is_right uid text (as_right (key row))) (held row) (has as_right before xs uid text)
      by true = has_given as_right before (key row) (held row) xs uid text
      by false = refl

-- where the same rows count, they make the same
pub same_after : {X Row : Type 0} (as_right : X → Right) (before : X → X → Bool) (key : Row → X) (held : Row → Bool)
    (lives others : Row → Bool) (xs : List X) (rows : List Row)
    → AllByRecursion (λ row. lives row ≡ others row) rows
    → fold (after_right as_right before key held lives) xs rows ≡ fold (after_right as_right before key held others) xs
    rows
same_after as_right before key held lives others xs [] all = refl
same_after {X} as_right before key held lives others xs (row ∷ rows) all =
    ap (λ (b : Bool). fold (after_right as_right before key held lives)
    (cond b (given as_right before (key row) (held row) xs) xs) rows) all.0
    ∙ same_after as_right before key held lives others (after_right as_right before key held others xs row) rows all.1

module _ {X Row : Type 0} (as_right : X → Right) (before : X → X → Bool) (key : Row → X) (held : Row → Bool) where
  -- what the rows make of rights, where some count
  abbrev made : (Row → Bool) → List X → List Row → List X
  made lives xs rows = fold (after_right as_right before key held lives) xs rows

  -- all are in order
  abbrev AreSorted : List X → Type 0
  AreSorted xs = IsStrictlySortedBy right_cmp (map as_right xs)

  -- what is said of a right
  abbrev said : (Row → Bool) → ℕ → List ℕ → Bool → List Row → Bool
  said lives uid text b rows = fold (told (λ row. as_right (key row)) held lives uid text) b rows

  -- of two lists in order that have the same rights
  alike : (xs ys : List X) → AreSorted xs → AreSorted ys → ((uid : ℕ) (text : List ℕ) → has as_right before xs uid text
      ≡ has as_right before ys uid text)
      → map as_right xs ≡ map as_right ys
  alike xs ys up down same =
      same_rights (map as_right xs) (map as_right ys) up down
      (λ uid text. has_map as_right before xs uid text ∙ same uid text ∙ sym (has_map as_right before ys uid text))

  -- a row that is put gives or takes its right
  pub made_with_put : (lives : Row → Bool) (x : Row) (xs : List X) (rows : List Row) → lives x ≡ true
      → IsTrue (rises (by_right (λ row. as_right (key row)) held) rows)
      → AreSorted (made lives xs (put_in (by_right (λ row. as_right (key row)) held) x rows))
      → AreSorted (given as_right before (key x) (held x) (made lives xs rows))
      → map as_right (made lives xs (put_in (by_right (λ row. as_right (key row)) held) x rows))
      ≡ map as_right (given as_right before (key x) (held x) (made lives xs rows))
  made_with_put lives x xs rows live rise up down = alike _ _ up down same
    where
      same : (uid : ℕ) (text : List ℕ) → has as_right before (made lives xs
          (put_in (by_right (λ row. as_right (key row)) held) x rows)) uid text
          ≡ has as_right before (given as_right before (key x) (held x) (made lives xs rows)) uid text
      same uid text =
          has_after as_right before key held lives uid text xs (put_in (by_right (λ row. as_right (key row)) held) x
          rows)
          ∙ put_told (λ row. as_right (key row)) held lives uid text x (has as_right before xs uid text) rows live rise
          ∙ ap (λ (b : Bool). cond (is_right uid text (as_right (key x))) (held x) b)
          (sym (has_after as_right before key held lives uid text xs rows))
          ∙ sym (has_given as_right before (key x) (held x) (made lives xs rows) uid text)

  -- the rights of a uid that is gone
  abbrev left_of : ℕ → List X → List X
  left_of gone xs = filter (λ (y : X). not ((as_right y).0 == gone)) xs

  -- where the rows of a uid count no more, its rights are gone
  pub made_without : (lives others : Row → Bool) (gone : ℕ) (xs : List X) (rows : List Row)
      → ((row : Row) → eqb (as_right (key row)).0 gone ≡ true → others row ≡ false)
      → ((row : Row) → eqb (as_right (key row)).0 gone ≡ false → others row ≡ lives row)
      → AreSorted (made others (left_of gone xs) rows) → AreSorted (left_of gone (made lives xs rows))
      → map as_right (made others (left_of gone xs) rows) ≡ map as_right (left_of gone (made lives xs rows))
  made_without lives others gone xs rows goes stays up down = alike _ _ up down
      (λ uid text. by uid text (eqb uid gone) refl)
    where
      its : (uid : ℕ) (text : List ℕ) (row : Row) → is_right uid text (as_right (key row)) ≡ true → uid
          ≡ (as_right (key row)).0
      its uid text row is = ap (λ (r : Right). r.0) (right_is uid text (as_right (key row)) is)

      all_rows : (P : Row → Type 0) → ((row : Row) → P row) → (rows : List Row) → AllByRecursion P rows
      all_rows P each [] = tt
      all_rows P each (row ∷ rows) = (each row, all_rows P each rows)

      by : (uid : ℕ) (text : List ℕ) (b : Bool) → eqb uid gone ≡ b
          → has as_right before (made others (left_of gone xs) rows) uid text
          ≡ has as_right before (left_of gone (made lives xs rows)) uid text
      by uid text true is =
          has_after as_right before key held others uid text (left_of gone xs) rows
          ∙ nothing_told (λ row. as_right (key row)) held others uid text _ rows
          (all_rows (λ row. is_right uid text (as_right (key row)) ≡ true → others row ≡ false)
          (λ row also. goes row (subst (λ (u : ℕ). eqb u gone ≡ true) (its uid text row also) is)) rows)
          ∙ has_without as_right before xs gone uid text
          ∙ ap (λ b. cond b false (has as_right before xs uid text)) is
          ∙ sym (has_without as_right before (made lives xs rows) gone uid text
          ∙ ap (λ b. cond b false (has as_right before (made lives xs rows) uid text)) is)
      by uid text false is =
          has_after as_right before key held others uid text (left_of gone xs) rows
          ∙ same_told (λ row. as_right (key row)) held others uid text lives _ rows
          (all_rows (λ row. is_right uid text (as_right (key row)) ≡ true → others row ≡ lives row)
          (λ row also. stays row (subst (λ (u : ℕ). eqb u gone ≡ false) (its uid text row also) is)) rows)
          ∙ ap (λ (b : Bool). said lives uid text b rows)
          (has_without as_right before xs gone uid text ∙ ap (λ b. cond b false (has as_right before xs uid text)) is)
          ∙ sym (has_after as_right before key held lives uid text xs rows)
          ∙ sym (has_without as_right before (made lives xs rows) gone uid text
          ∙ ap (λ b. cond b false (has as_right before (made lives xs rows) uid text)) is)
