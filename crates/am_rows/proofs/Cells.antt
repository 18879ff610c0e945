-- Rows and their cells are told from each other.
use Rattle.std.proofs.Common.{◌≡◌, ℕ, zero, suc, ◌+◌, ◌<◌, ◌==◌, Bool, true, false, nat_lt, cond, if◌then◌else◌, IsTrue, List, [], ◌∷◌, length, Option, Some, None, pos, negsuc, ℤ, slice_get, Result, Ok, Err, IfOk, refl, sym, ap, ◌∙◌, subst, arith, inl, inr, rules}
use Rattle.std.proofs.lemmas.Bool.{cases_Bool, eqb-true, and_parts}
use Rattle.std.proofs.lemmas.Bool.Decides.{nat_tests}
use Rattle.am_keeper.specs.declared.rows.PackageRow.{PackageRow}
use Rattle.am_keeper.specs.declared.rows.Row.{Row}
use Rattle.am_keeper.specs.declared.rows.Row.TheVariants.{Package, Grant, Link}
use Rattle.am_rows.specs.declared.RowFault.{RowFault}
use Rattle.am_rows.specs.declared.Cell.{Cell}
use Rattle.am_rows.specs.declared.Cell.TheVariants.{Whole, Words}
use Rattle.am_rows.specs.Cells.{◌>>=◌, truth_number, word_cells, cells_of, whole_in, words_in, whole_at, words_at, uid_from, truth_from, Numbers, Texts, is_empty, has_word_alone, if_alone, package_from, link_from, row_from, numbers_in, texts_in, row_in, IsReading}

-- a chain that gave something gave it through each step
through : {A B : Type 0} (o : Option A) (f : A → Option B) (b : B) → (o >>= f) ≡ Some b → (a : A) × (o ≡ Some a)
    × (f a ≡ Some b)
through None f b h = absurd (let e = h in cc)
through (Some a) f b h = (a, refl, h)

-- what a test let through
passed : {A : Type 0} (b : Bool) (o : Option A) (a : A) → (if b then o else None) ≡ Some a → (b ≡ true) × (o ≡ Some a)
passed true o a h = (refl, h)
passed false o a h = absurd (let e = h in cc)

whole_in-some : (c : Cell) (n : ℤ) → whole_in c ≡ Some n → c ≡ Whole n
whole_in-some (Whole m) n h = cc
whole_in-some (Words t) n h = absurd (let e = h in cc)

words_in-some : (c : Cell) (t : List ℕ) → words_in c ≡ Some t → c ≡ Words t
words_in-some (Whole m) t h = absurd (let e = h in cc)
words_in-some (Words s) t h = cc

whole_at-some : (cells : List Cell) (at : ℕ) (n : ℤ) → whole_at cells at ≡ Some n → slice_get cells at ≡ Some (Whole n)
whole_at-some cells at n h = let w = through (slice_get cells at) whole_in n h in w.1
    ∙ ap Some (whole_in-some w.0 n w.2)

words_at-some : (cells : List Cell) (at : ℕ) (t : List ℕ) → words_at cells at ≡ Some t → slice_get cells at
    ≡ Some (Words t)
words_at-some cells at t h = let w = through (slice_get cells at) words_in t h in w.1
    ∙ ap Some (words_in-some w.0 t w.2)

uid_from-some : (z : ℤ) (n : ℕ) → uid_from z ≡ Some n → z ≡ pos n
uid_from-some (pos m) n h = let w = passed (nat_lt m 4294967296) (Some m) n h in let e = w.1 in cc
uid_from-some (negsuc m) n h = absurd (let e = h in cc)

truth_from-some : (z : ℤ) (b : Bool) → truth_from z ≡ Some b → z ≡ truth_number b
truth_from-some (negsuc m) b h = absurd (let e = h in cc)
truth_from-some (pos m) b h = elim (cases_Bool (m == 0)) [
  | inl zero_is ↦ let none : m ≡ 0 = eqb-true m 0 zero_is in let e : false
      ≡ b = (let k = rw zero_is at h in cc) in rw (none, ← e)
  | inr not_zero ↦ let w = passed (m == 1) (Some true) b (rw not_zero at h) in let one : m
      ≡ 1 = eqb-true m 1 w.0 in let e : true ≡ b = (let k = w.1 in cc) in rw (one, ← e)
]

empty_is : (t : List ℕ) → is_empty t ≡ true → t ≡ []
empty_is [] h = refl
empty_is (x ∷ xs) h = absurd (let e = h in cc)

-- the cells that numbers and texts come from
abbrev laid : ℤ → ℕ → Bool → Texts → List Cell
laid k uid truth t = Whole k ∷ Whole (pos uid) ∷ Words t.word ∷ Words t.name ∷ Words t.access ∷ Words t.manifest
    ∷ Whole (truth_number truth) ∷ []

package_from-some : (uid : ℕ) (truth : Bool) (t : Texts) (row : Row) → package_from uid truth t ≡ Some row
    → cells_of row ≡ laid (pos 0) uid truth t
package_from-some uid truth t row h =
    let w = passed (is_empty t.word) (Some (Package (record {
      uid = uid;
      name = t.name;
      key = t.access;
      text =
          t.manifest;
      gone = truth;
    }))) row h in
    let is : Package (record { uid = uid; name = t.name; key = t.access; text = t.manifest; gone = truth })
    ≡ row = (let e = w.1 in cc) in
    rw (← is, empty_is t.word w.0)

-- a word alone stands beside no other text
word_alone : (t : Texts) → has_word_alone t ≡ true → (t.name ≡ []) × (t.access ≡ []) × (t.manifest ≡ [])
word_alone t alone =
    let name = and_parts (is_empty t.name) _ alone in
    let other = and_parts (is_empty t.access) (is_empty t.manifest) name.1 in
    (empty_is t.name name.0, empty_is t.access other.0, empty_is t.manifest other.1)

-- a row of a kind with a word alone
alone-some : (number : ℤ) (uid : ℕ) (truth : Bool) (t : Texts) (made row : Row) → cells_of made
    ≡ word_cells number uid t.word truth
    → if_alone t made ≡ Some row → cells_of row ≡ laid number uid truth t
alone-some number uid truth t made row cells h =
    let w = passed (has_word_alone t) (Some made) row h in
    let is : made ≡ row = (let e = w.1 in cc) in
    let empty = word_alone t w.0 in
    rw (← is, cells, empty.0, empty.1, empty.2)

row_from-some : (k : ℤ) (uid : ℕ) (truth : Bool) (t : Texts) (row : Row) → row_from k uid truth t ≡ Some row
    → cells_of row ≡ laid k uid truth t
row_from-some (negsuc n) uid truth t row h = absurd (let e = h in cc)
row_from-some (pos n) uid truth t row h = elim (cases_Bool (n == 0)) [
  | inl at0 ↦ package_from-some uid truth t row (rw at0 at h) ∙ ap (λ m. laid (pos m) uid truth t)
      (sym (eqb-true n 0 at0))
  | inr not0 ↦ elim (cases_Bool (n == 1)) [
    | inl at1 ↦ alone-some (pos 1) uid truth t _ row refl (rw (not0, at1) at h)
        ∙ ap (λ m. laid (pos m) uid truth t) (sym (eqb-true n 1 at1))
    | inr not1 ↦ let w = passed (n == 2) (link_from uid truth t) row (rw (not0, not1) at h) in
        alone-some (pos 2) uid truth t _ row refl w.1 ∙ ap (λ m. laid (pos m) uid truth t) (sym (eqb-true n 2 w.0))
  ]
]

-- a list of seven, by what stands at each place
seven : (cells : List Cell) (a b c d e f g : Cell) → length cells ≡ 7 → slice_get cells 0 ≡ Some a → slice_get cells 1
    ≡ Some b → slice_get cells 2 ≡ Some c → slice_get cells 3 ≡ Some d
    → slice_get cells 4 ≡ Some e → slice_get cells 5 ≡ Some f → slice_get cells 6 ≡ Some g → a ∷ b ∷ c ∷ d ∷ e ∷ f ∷ g
    ∷ [] ≡ cells
seven (p ∷ q ∷ r ∷ s ∷ t ∷ u ∷ v ∷ []) a b c d e f g len h0 h1 h2 h3 h4 h5 h6 = cc
seven (p ∷ q ∷ r ∷ s ∷ t ∷ u ∷ v ∷ w ∷ more) a b c d e f g len h0 h1 h2 h3 h4 h5 h6 = absurd (omega (arith, len))
seven (p ∷ q ∷ r ∷ s ∷ t ∷ u ∷ []) a b c d e f g len h0 h1 h2 h3 h4 h5 h6 = absurd (omega (arith, len))
seven (p ∷ q ∷ r ∷ s ∷ t ∷ []) a b c d e f g len h0 h1 h2 h3 h4 h5 h6 = absurd (omega (arith, len))
seven (p ∷ q ∷ r ∷ s ∷ []) a b c d e f g len h0 h1 h2 h3 h4 h5 h6 = absurd (omega (arith, len))
seven (p ∷ q ∷ r ∷ []) a b c d e f g len h0 h1 h2 h3 h4 h5 h6 = absurd (omega (arith, len))
seven (p ∷ q ∷ []) a b c d e f g len h0 h1 h2 h3 h4 h5 h6 = absurd (omega (arith, len))
seven (p ∷ []) a b c d e f g len h0 h1 h2 h3 h4 h5 h6 = absurd (omega (arith, len))
seven [] a b c d e f g len h0 h1 h2 h3 h4 h5 h6 = absurd (omega (arith, len))

-- cells that are read as a row are its cells
pub cells_of-row_in : (cells : List Cell) (row : Row) → row_in cells ≡ Some row → cells_of row ≡ cells
cells_of-row_in cells row h =
    let whole = passed (length cells == 7) (numbers_in cells >>= (λ n. texts_in cells >>= row_from n.kind n.uid
    n.truth)) row h in
    let n = through (numbers_in cells) (λ n. texts_in cells >>= row_from n.kind n.uid n.truth) row whole.1 in
    let t = through (texts_in cells) (row_from n.0.kind n.0.uid n.0.truth) row n.2 in
    let kind = through (whole_at cells 0) _ n.0 n.1 in
    let uid = through (whole_at cells 1 >>= uid_from) _ n.0 kind.2 in
    let number = through (whole_at cells 1) uid_from uid.0 uid.1 in
    let truth = through (whole_at cells 6 >>= truth_from) _ n.0 uid.2 in
    let digit = through (whole_at cells 6) truth_from truth.0 truth.1 in
    let word = through (words_at cells 2) _ t.0 t.1 in
    let name = through (words_at cells 3) _ t.0 word.2 in
    let access = through (words_at cells 4) _ t.0 name.2 in
    let manifest = through (words_at cells 5) _ t.0 access.2 in
    let numbers : record { kind = kind.0; uid = uid.0; truth = truth.0 } ≡ n.0 = (let e = truth.2 in cc) in
    let texts : record { word = word.0; name = name.0; access = access.0; manifest = manifest.0 }
    ≡ t.0 = (let e = manifest.2 in cc) in
    row_from-some n.0.kind n.0.uid n.0.truth t.0 row t.2
    ∙ ap (λ (m : Numbers). laid m.kind m.uid m.truth t.0) (sym numbers)
    ∙ ap (laid kind.0 uid.0 truth.0) (sym texts)
    ∙ seven cells _ _ _ _ _ _ _ (eqb-true (length cells) 7 whole.0)
    (whole_at-some cells 0 _ kind.1)
    (whole_at-some cells 1 _ number.1 ∙ ap (λ z. Some (Whole z)) (uid_from-some _ _ number.2))
    (words_at-some cells 2 _ word.1) (words_at-some cells 3 _ name.1) (words_at-some cells 4 _ access.1)
    (words_at-some cells 5 _ manifest.1)
    (whole_at-some cells 6 _ digit.1 ∙ ap (λ z. Some (Whole z)) (truth_from-some _ _ digit.2))

-- the uid that a row carries
abbrev pub uid_in : Row → ℕ
uid_in (Package row) = row.uid
uid_in (Grant row) = row.uid
uid_in (Link row) = row.uid

truth-back : (b : Bool) → truth_from (truth_number b) ≡ Some b
truth-back true = refl
truth-back false = refl

uid-back : (n : ℕ) → n < 4294967296 → uid_from (pos n) ≡ Some n
uid-back n h = let low : nat_lt n 4294967296 ≡ true = grind (arith, nat_tests) in rw low

-- and the cells of a row are read as it
pub row_in-cells_of : (row : Row) → uid_in row < 4294967296 → row_in (cells_of row) ≡ Some row
row_in-cells_of (Package row) h = rw (uid-back row.uid h, truth-back row.gone)
row_in-cells_of (Grant row) h = rw (uid-back row.uid h, truth-back row.held)
row_in-cells_of (Link row) h = rw (uid-back row.uid h, truth-back row.approved)

-- a row that was read from cells has these cells
pub cells_of-read : (cells : List Cell) (r : Result Row RowFault) → IsReading (row_in cells) r
    → IfOk r (λ row. cells_of row ≡ cells)
cells_of-read cells (Ok row) h = cells_of-row_in cells row h
cells_of-read cells (Err fault) h = tt
