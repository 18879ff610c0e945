-- Edits of the rows of a tree, as changes of order.
use Rattle.std.proofs.Common.{◌≡◌, inl, inr, ℤ, List, [], ◌∷◌, Bool, true, false, not, ◌&&◌, filter, IsTrue, refl, sym, ap, ◌∙◌, subst, true≢false, Ordering, Less, Equal, Greater}
use Rattle.std.specs.List.{AllByRecursion}
use Rattle.std.specs.Ordering.{is_eq, match_ordering}
use Rattle.std.specs.List.Sorted.{IsPermutation}
use Rattle.std.proofs.lemmas.List.Sorted.{IsPermutation-refl, IsPermutation-cons, IsPermutation-trans}
use Rattle.std.proofs.lemmas.Cmp.{tied_itself}
use Rattle.std.proofs.lemmas.Bool.{or_parts}
use Rattle.sqlite.specs.declared.types.Value.{Value}
use Rattle.sqlite.specs.declared.types.Value.TheVariants.{Null, Int, Real, Text, Blob}
use Rattle.sqlite.specs.Order.{Row}
use Rattle.sqlite.specs.Tree.{rowid, put_row, IsTable, has_rowid, without_rowid}
use Rattle.sqlite_value.specs.declared.keys.Collation.{Collation}
use Rattle.sqlite_value.specs.declared.keys.Collation.TheVariants.{Binary}
use Rattle.sqlite_value.specs.Order.{value_cmp}
use Rattle.sqlite_value.specs.Keys.{collated}
use Rattle.sqlite_value.proofs.OrderLemmas.{value_cmp_total}
use Rattle.sqlite_value.proofs.KeyLemmas.{collated_total}
use Rattle.sqlite_trees.specs.View.{is_int}
use Rattle.sqlite_trees.proofs.ListLemmas.{all_weaker, filter_none, filter_all, filter_same}
use Rattle.sqlite_trees.proofs.TreeLemmas.{later_rowids}
use Rattle.sqlite_sql.specs.Ops.{binary, is_null}
use Rattle.sqlite_schema.specs.Rules.{equal, differ}
use Rattle.sqlite_rules.specs.Lists.{Has}
use Rattle.sqlite_rules.specs.Edit.{is_taken}
use Rattle.sqlite_rules.proofs.ListLemmas.{all_has}
use Rattle.am_keeper_sql.proofs.Permuted.{swapped}

-- ---- SQL's equality of two values that are not NULL

pub equal_is : (how : Collation) (a b : Value) → is_null a ≡ false → is_null b ≡ false → equal how a b
    ≡ is_eq (collated how a b)
unfolding binary
equal_is how a b p q = by (is_eq (collated how a b)) refl
  where
    by : (t : Bool) → is_eq (collated how a b) ≡ t → equal how a b ≡ is_eq (collated how a b)
    by true e = rw (p, q, e)
    by false e = rw (p, q, e)

pub equal_itself : (how : Collation) (a : Value) → is_null a ≡ false → equal how a a ≡ true
equal_itself how a p = equal_is how a a p p ∙ ap is_eq (tied_itself (collated_total how) a)

pub differ_below : (a b : Value) → is_null a ≡ false → is_null b ≡ false → value_cmp a b ≡ Less → differ a b ≡ true
unfolding binary
differ_below a b p q below = rw (p, q, below)

-- ---- one row goes in, and one comes out

-- a row whose rowid is free is put among the others
pub placed : (new : Row) (rows : List Row) → is_taken rows new ≡ false → IsPermutation (new ∷ rows) (put_row new rows)
placed new [] free = IsPermutation-refl (new ∷ [])
placed new (r ∷ rows) free = by (value_cmp (rowid r) (rowid new)) (or_parts _ _ free).0
    (placed new rows (or_parts _ _ free).1)
  where
    by : (o : Ordering) → is_eq o ≡ false → IsPermutation (new ∷ rows) (put_row new rows)
        → IsPermutation (new ∷ r ∷ rows) (match_ordering o (r ∷ put_row new rows) (new ∷ rows) (new ∷ r ∷ rows))
    by Less other more = IsPermutation-trans _ _ _ (swapped new r rows) (IsPermutation-cons r _ _ more)
    by Equal other more = absurd (true≢false other)
    by Greater other more = IsPermutation-refl _

pub tied_is : (o : Ordering) → is_eq o ≡ true → o ≡ Equal
tied_is Less h = absurd (true≢false (sym h))
tied_is Equal h = refl
tied_is Greater h = absurd (true≢false (sym h))

untied : (o : Ordering) → o ≡ Less → is_eq o ≡ false
untied o h = rw h refl

keeps_all : (p : Row → Bool) (rows : List Row) → AllByRecursion (λ r. p r ≡ false) rows → filter (λ r. not (p r)) rows
    ≡ rows
keeps_all p rows none = filter_all (λ r. not (p r)) rows (all_weaker (λ r. p r ≡ false) (λ r. not (p r) ≡ true)
    (λ r h. ap not h) rows none)

module _ (id : ℤ) (r : Row) (here : rowid r ≡ Int id) where
  own : has_rowid id r ≡ true
  own = rw (here, tied_itself value_cmp_total (Int id)) refl

  -- what stands before this row has another rowid
  before : (x : Row) → value_cmp (rowid x) (rowid r) ≡ Less → has_rowid id x ≡ false
  before x below = ap is_eq (ap (value_cmp (rowid x)) (sym here) ∙ below)

  -- and so has what stands behind it
  behind : (rows : List Row) → AllByRecursion (λ y. value_cmp (rowid r) (rowid y) ≡ Less) rows
      → AllByRecursion (λ y. has_rowid id y ≡ false) rows
  behind rows above = later_rowids (Int id) r rows (rw (here, tied_itself value_cmp_total (Int id)) refl) above

  above_first : (x : Row) (rows : List Row) → r ≡ x → AllByRecursion (λ y. value_cmp (rowid x) (rowid y) ≡ Less) rows
      → AllByRecursion (λ y. value_cmp (rowid r) (rowid y) ≡ Less) rows
  above_first x rows same = subst (λ z. AllByRecursion (λ y. value_cmp (rowid z) (rowid y) ≡ Less) rows) (sym same)

  -- the rows are this one and those with other rowids
  pub taken_out : (rows : List Row) → IsTable rows → Has rows r → IsPermutation (r ∷ without_rowid id rows) rows
  taken_out [] up h = absurd h
  taken_out (x ∷ xs) up (inl same) =
      let others = behind xs (above_first x xs same up.0) in
      subst (λ z. IsPermutation (r ∷ without_rowid id (z ∷ xs)) (z ∷ xs)) same
      (rw (own, keeps_all (has_rowid id) xs others) (IsPermutation-refl (r ∷ xs)))
  taken_out (x ∷ xs) up (inr later) =
      let off = before x (all_has (λ y. value_cmp (rowid x) (rowid y) ≡ Less) xs r up.0 later) in
      rw off (IsPermutation-trans _ _ _ (swapped r x (without_rowid id xs))
      (IsPermutation-cons x _ _ (taken_out xs up.1 later)))

  -- and no other row has its rowid
  one_found : (rows : List Row) → IsTable rows → Has rows r → filter (has_rowid id) rows ≡ r ∷ []
  one_found [] up h = absurd h
  one_found (x ∷ xs) up (inl same) =
      let others = behind xs (above_first x xs same up.0) in
      subst (λ z. filter (has_rowid id) (z ∷ xs) ≡ r ∷ []) same (rw own
      (ap (λ more. r ∷ more) (filter_none (has_rowid id) xs others)))
  one_found (x ∷ xs) up (inr later) =
      let off = before x (all_has (λ y. value_cmp (rowid x) (rowid y) ≡ Less) xs r up.0 later) in
      rw off (one_found xs up.1 later)

pub not_null : (v : Value) → IsTrue (is_int v) → is_null v ≡ false
not_null Null h = absurd (true≢false (sym h))
not_null (Int n) h = refl
not_null (Real x) h = refl
not_null (Text t) h = refl
not_null (Blob b) h = refl

pub one_met : (id : ℤ) (r : Row) (rows : List Row) → rowid r ≡ Int id → IsTable rows
    → AllByRecursion (λ y. IsTrue (is_int (rowid y))) rows → Has rows r
    → filter (λ y. equal Binary (rowid y) (Int id) && true) rows ≡ r ∷ []
one_met id r rows here up keyed h =
    filter_same (λ y. equal Binary (rowid y) (Int id) && true) (has_rowid id) rows
    (all_weaker _ (λ y. (equal Binary (rowid y) (Int id) && true) ≡ has_rowid id y) same rows keyed)
    ∙ one_found id r here rows up h
  where
    alone : (b : Bool) → (b && true) ≡ b
    alone true = refl
    alone false = refl

    same : (y : Row) → IsTrue (is_int (rowid y)) → (equal Binary (rowid y) (Int id) && true) ≡ has_rowid id y
    same y int = alone _ ∙ equal_is Binary (rowid y) (Int id) (not_null (rowid y) int) refl
