-- Rows that are merged with rights, one after the other.
use Rattle.std.proofs.Common.{◌≡◌, ℕ, ◌+◌, ◌<◌, ◌≤◌, Bool, true, false, not, ◌||◌, cond, List, [], ◌∷◌, ◌++◌, length, get_or, take, drop, map, filter, refl, sym, ap, ◌∙◌, subst}
use Rattle.std.specs.List.{fold, list_any}
use Rattle.std.specs.List.Sorted.{IsStrictlySortedBy}
use Rattle.std.specs.declared.cmp.Ordering.{Ordering}
use Rattle.std.specs.declared.cmp.Ordering.TheVariants.{Less}
use Rattle.std.proofs.lemmas.List.{at_drop_more, map-id, take_all}
use Rattle.std.proofs.lemmas.List.Sums.{fold_more}
use Rattle.am_keeper.specs.Rows.{leads, rises}
use Rattle.am_model.specs.Lists.{inserted}
use Rattle.am_model.specs.Rights.{Right, before_right, has_right, with_right as with_right_of}
use Rattle.am_model.specs.Sound.{right_cmp}
use Rattle.am_model.proofs.Rights.{less_from, with_in_order}
use Rattle.am_laws.proofs.Tests.{both}
use Rattle.am_opening.specs.Merging.{is_right, place_right, with_right, merge_one, merge_if, after_right}
use Rattle.am_opening.proofs.Merged.{AllBefore, before_next, merged, merged_before}

-- rights stay in order
sorted_with : (rights : List Right) (r : Right) (held : Bool) → IsStrictlySortedBy right_cmp rights
    → IsStrictlySortedBy right_cmp (with_right rights r held)
sorted_with rights r held sorted =
    subst (λ (l : List Right). IsStrictlySortedBy right_cmp l) (map-id (with_right rights r held))
    (with_in_order (λ (s : Right). s) (λ uid text. (uid, text)) (λ u t. refl) rights r.0 r.1 held
    (subst (λ (l : List Right). IsStrictlySortedBy right_cmp l) (sym (map-id rights)) sorted))

-- rows of some kind, of each of which it is known what its right is, whether it is held, and whether its package is
-- there
module _ {R : Type 0} (right : R → Right) (held live : R → Bool) where
  -- the rights after a row
  abbrev follow : List Right → R → List Right
  follow rights row = after_right right held live rights row

  -- the first row, if there is one, stands behind what is done
  abbrev pub Leads : List Right → List R → Type 0
  Leads done [] = Unit {0}
  Leads done (row ∷ rows) = AllBefore done (right row)

  -- the first row, if there is one, stands behind this right
  abbrev pub Precedes : Right → List R → Type 0
  Precedes r [] = Unit {0}
  Precedes r (row ∷ rows) = right_cmp r (right row) ≡ Less

  -- each row stands before the next
  abbrev pub Rise : List R → Type 0
  Rise [] = Unit {0}
  Rise (row ∷ rows) = Precedes (right row) rows × Rise rows

  -- rows that rise by an order that is the one of their rights
  pub rise : (order : R → R → Ordering) → ((x y : R) → order x y ≡ right_cmp (right x) (right y)) → (rows : List R)
      → rises order rows ≡ true → Rise rows
  rise order same [] up = tt
  rise order same (x ∷ rows) up = let parts = both (leads order x rows) (rises order rows) up in
      (by rows parts.0, rise order same rows parts.1)
    where
      by : (rows : List R) → leads order x rows ≡ true → Precedes (right x) rows
      by [] first = tt
      by (y ∷ rows) first = sym (same x y) ∙ less_from (order x y) first

  -- the rows so far made of the rights what is done and what is left
  pub record IsMerging (rights : List Right) (rows : List R) (i : ℕ) (done left : List Right) : Type 0 where
    pub follows : fold follow rights (take i rows) ≡ done ++ left
    pub leads : Leads done (drop i rows)
    pub rise : Rise (drop i rows)

  pub none_merged : (rights : List Right) (rows : List R) → Rise rows → IsMerging rights rows 0 [] rights
  none_merged rights rows up = record { follows = refl; leads = by rows; rise = up }
    where
      by : (rows : List R) → Leads [] rows
      by [] = tt
      by (row ∷ rows) = tt

  stays_sorted : (rights : List Right) (rows : List R) → IsStrictlySortedBy right_cmp rights
      → IsStrictlySortedBy right_cmp (fold follow rights rows)
  stays_sorted rights [] sorted = sorted
  stays_sorted rights (row ∷ rows) sorted = stays_sorted (follow rights row) rows (by (live row))
    where
      by : (b : Bool) → IsStrictlySortedBy right_cmp (cond b (with_right rights (right row) (held row)) rights)
      by true = sorted_with rights (right row) (held row) sorted
      by false = sorted

  leads_next : (done : List Right) (r : Right) (rows : List R) → Precedes r rows → AllBefore done r → Leads done rows
  leads_next done r [] first all = tt
  leads_next done r (row ∷ rows) first all = before_next done r (right row) first all

  leads_merged : (done left : List Right) (r : Right) (b : Bool) (rows : List R) → Precedes r rows → AllBefore done r
      → Leads ((merge_one r b (done, left)).0) rows
  leads_merged done left r b [] first all = tt
  leads_merged done left r b (row ∷ rows) first all = merged_before done left r (right row) b all first

  -- one row more
  pub one_merged : (rights : List Right) (rows : List R) (i : ℕ) (row : R) (done left : List Right)
      → IsStrictlySortedBy right_cmp rights → i < length rows → row ≡ get_or rows i row
      → IsMerging rights rows i done left
      → IsMerging rights rows (i + 1) ((merge_if (live row) (right row) (held row) (done, left)).0)
      ((merge_if (live row) (right row) (held row) (done, left)).1)
  one_merged rights rows i row done left sorted within is merging = by (live row) refl
    where
      rest : drop i rows ≡ row ∷ drop (i + 1) rows
      rest = at_drop_more (λ (l : List R). l) rows i row within ∙ ap (λ (x : R). x ∷ drop (i + 1) rows) (sym is)

      before : AllBefore done (right row)
      before = subst (λ (l : List R). Leads done l) rest merging.leads

      up : Precedes (right row) (drop (i + 1) rows) × Rise (drop (i + 1) rows)
      up = subst (λ (l : List R). Rise l) rest merging.rise

      all_sorted : IsStrictlySortedBy right_cmp (done ++ left)
      all_sorted = subst (λ (l : List Right). IsStrictlySortedBy right_cmp l) merging.follows
          (stays_sorted rights (take i rows) sorted)

      next : fold follow rights (take (i + 1) rows) ≡ cond (live row) (with_right (done ++ left) (right row) (held row))
          (done ++ left)
      next =
          fold_more follow rights rows i row within
          ∙ ap (λ (x : R). follow (fold follow rights (take i rows)) x) (sym is)
          ∙ ap (λ (l : List Right). follow l row) merging.follows

      by : (b : Bool) → live row ≡ b → IsMerging rights rows (i + 1)
          ((merge_if b (right row) (held row) (done, left)).0) ((merge_if b (right row) (held row) (done, left)).1)
      by true e = record {
        follows = next ∙ ap (λ b. cond b (with_right (done ++ left) (right row) (held row)) (done ++ left)) e
            ∙ merged done left (right row) (held row) all_sorted before;
        leads = leads_merged done left (right row) (held row) (drop (i + 1) rows) up.0 before;
        rise = up.1;
      }
      by false e = record {
        follows = next ∙ ap (λ b. cond b (with_right (done ++ left) (right row) (held row)) (done ++ left)) e;
        leads = leads_next done (right row) (drop (i + 1) rows) up.0 before;
        rise = up.1;
      }

  -- all rows
  pub all_merged : (rights : List Right) (rows : List R) (i : ℕ) (done left : List Right) → length rows ≤ i
      → IsMerging rights rows i done left
      → done ++ left ≡ fold follow rights rows
  all_merged rights rows i done left all merging = sym merging.follows
      ∙ ap (λ (l : List R). fold follow rights l) (take_all i rows all)

-- what is kept as rights, as a uid and a text each
module _ {R : Type 0} (right_of : R → Right) where
  of_placed : (r : R) (rs : List R) → map right_of (inserted (before_right right_of) r rs)
      ≡ place_right (right_of r) (map right_of rs)
  of_placed r [] = refl
  of_placed r (first ∷ rs) = by (before_right right_of r first) (of_placed r rs)
    where
      by : (b : Bool) → map right_of (inserted (before_right right_of) r rs)
          ≡ place_right (right_of r) (map right_of rs)
          → map right_of (cond b (r ∷ first ∷ rs) (first ∷ inserted (before_right right_of) r rs))
          ≡ cond b (right_of r ∷ right_of first ∷ map right_of rs)
          (right_of first ∷ place_right (right_of r) (map right_of rs))
      by true e = refl
      by false e = ap (λ (l : List Right). right_of first ∷ l) e

  of_any : (uid : ℕ) (text : List ℕ) (rs : List R) → has_right right_of rs uid text
      ≡ list_any (is_right (uid, text)) (map right_of rs)
  of_any uid text [] = refl
  of_any uid text (r ∷ rs) = ap (λ b. is_right (uid, text) (right_of r) || b) (of_any uid text rs)

  of_others : (uid : ℕ) (text : List ℕ) (rs : List R) → map right_of
      (filter (λ r. not (is_right (uid, text) (right_of r))) rs)
      ≡ filter (λ other. not (is_right (uid, text) other)) (map right_of rs)
  of_others uid text [] = refl
  of_others uid text (r ∷ rs) = by (is_right (uid, text) (right_of r)) (of_others uid text rs)
    where
      left : List R
      left = filter (λ s. not (is_right (uid, text) (right_of s))) rs

      others : List Right
      others = filter (λ other. not (is_right (uid, text) other)) (map right_of rs)

      by : (b : Bool) → map right_of left ≡ others → map right_of (cond (not b) (r ∷ left) left)
          ≡ cond (not b) (right_of r ∷ others) others
      by true e = e
      by false e = ap (λ (l : List Right). right_of r ∷ l) e

  module _ (made : ℕ → List ℕ → R) (made_is : (uid : ℕ) (text : List ℕ) → right_of (made uid text) ≡ (uid, text)) where
    -- when one is given or taken
    of_with : (rs : List R) (r : Right) (held : Bool) → map right_of (with_right_of right_of made rs r.0 r.1 held)
        ≡ with_right (map right_of rs) r held
    of_with rs r false = of_others r.0 r.1 rs
    of_with rs r true =
        by (has_right right_of rs r.0 r.1)
        ∙ ap (λ b. cond b (map right_of rs) (place_right r (map right_of rs))) (of_any r.0 r.1 rs)
      where
        by : (b : Bool) → map right_of (cond b rs (inserted (before_right right_of) (made r.0 r.1) rs))
            ≡ cond b (map right_of rs) (place_right r (map right_of rs))
        by true = refl
        by false = of_placed (made r.0 r.1) rs ∙ ap (λ (s : Right). place_right s (map right_of rs)) (made_is r.0 r.1)

    -- when rows are followed
    module _ {Row : Type 0} (row_right : Row → Right) (held live : Row → Bool) where
      abbrev pub after_one : List R → Row → List R
      after_one rs row = cond (live row) (with_right_of right_of made rs (row_right row).0 (row_right row).1 (held row))
          rs

      of_followed : (rs : List R) (rows : List Row) → map right_of (fold after_one rs rows)
          ≡ fold (follow row_right held live) (map right_of rs) rows
      of_followed rs [] = refl
      of_followed rs (row ∷ rows) =
          of_followed (after_one rs row) rows
          ∙ ap (λ (l : List Right). fold (follow row_right held live) l rows) (by (live row))
        where
          by : (b : Bool) → map right_of (cond b (with_right_of right_of made rs (row_right row).0 (row_right row).1
              (held row)) rs)
              ≡ cond b (with_right (map right_of rs) (row_right row) (held row)) (map right_of rs)
          by true = of_with rs (row_right row) (held row)
          by false = refl

      -- and what is made of the rights that followed
      pub made_of : ((r : R) → made (right_of r).0 (right_of r).1 ≡ r) → (rs : List R) (rows : List Row)
          → map (λ (r : Right). made r.0 r.1) (fold (follow row_right held live) (map right_of rs) rows)
          ≡ fold after_one rs rows
      made_of itself rs rows =
          ap (map (λ (r : Right). made r.0 r.1)) (sym (of_followed rs rows)) ∙ back (fold after_one rs rows)
        where
          back : (rs : List R) → map (λ (r : Right). made r.0 r.1) (map right_of rs) ≡ rs
          back [] = refl
          back (r ∷ rs) = (λ i. itself r i ∷ back rs i)
