-- What a table tells doesn't hang on the order of its rows.
use Rattle.std.proofs.Common.{◌≡◌, List, [], ◌∷◌, Option, Some, None, refl, sym, ap, ◌∙◌}
use Rattle.std.specs.List.{AllByRecursion}
use Rattle.std.specs.List.Sorted.{IsPermutation}
use Rattle.std.proofs.lemmas.List.Sorted.{IsPermutation-refl, IsPermutation-cons, IsPermutation-trans, IsPermutation-append_left, IsPermutation-append_comm}
use Rattle.sqlite.specs.Order.{Row}
use Rattle.sqlite_trees.specs.Tree.{IsAscending}
use Rattle.sqlite_trees.proofs.ListLemmas.{along_permutation, all-permutation}
use Rattle.am_keeper.specs.declared.rows.Row.{Row as Kept}
use Rattle.am_keeper.specs.declared.rows.Rows.{Rows}
use Rattle.am_keeper_sql.specs.Told.{row_said}
use Rattle.am_keeper_sql.proofs.Said.{with_said, said_from}
use Rattle.am_keeper_sql.proofs.Rows.{key, key-said, with_row-apart}

-- values of two keys
abbrev pub Apart : Row → Row → Type 0
Apart x y = key x ≡ key y → ⊥

abbrev pub AreApart : List Row → Type 0
AreApart = IsAscending Apart

pub with_said-apart : (rows : Rows) (x y : Row) → Apart x y → with_said (with_said rows (row_said x)) (row_said y)
    ≡ with_said (with_said rows (row_said y)) (row_said x)
with_said-apart rows x y apart = by (row_said x) (row_said y) refl refl
  where
    by : (a b : Option Kept) → row_said x ≡ a → row_said y ≡ b → with_said (with_said rows a) b
        ≡ with_said (with_said rows b) a
    by None b p q = refl
    by (Some a) None p q = refl
    by (Some a) (Some b) p q = with_row-apart rows a b (λ same. apart (key-said x a p ∙ same ∙ sym (key-said y b q)))

-- a row that is put first may as well be put last
pub said_from-first : (rows : Rows) (x : Row) (more : List Row) → AllByRecursion (Apart x) more
    → said_from (with_said rows (row_said x)) more ≡ with_said (said_from rows more) (row_said x)
said_from-first rows x [] h = refl
said_from-first rows x (y ∷ more) h = ap (λ all. said_from all more) (with_said-apart rows x y h.0)
    ∙ said_from-first (with_said rows (row_said y)) x more h.1

pub swapped : (x y : Row) (more : List Row) → IsPermutation (x ∷ y ∷ more) (y ∷ x ∷ more)
swapped x y more = IsPermutation-append_left more (x ∷ y ∷ []) (y ∷ x ∷ [])
    (IsPermutation-append_comm (x ∷ []) (y ∷ []))

abbrev Alike : List Row → List Row → Type 0
Alike xs ys = IsPermutation xs ys × (AreApart xs → AreApart ys × ((rows : Rows) → said_from rows xs
    ≡ said_from rows ys))

alike : (xs ys : List Row) → IsPermutation xs ys → Alike xs ys
alike = along_permutation Alike
    (λ xs. (IsPermutation-refl xs, λ apart. (apart, λ rows. refl)))
    (λ x xs ys h. (
      IsPermutation-cons x xs ys h.0,
      λ apart. let r = h.1 apart.1 in (
        (all-permutation (Apart x) xs ys h.0 apart.0, r.0),
        λ rows. r.1
            (with_said rows (row_said x)),
      ),
    ))
    (λ x y xs. (
      swapped x y xs,
      λ apart. (
        ((λ same. apart.0.0 (sym same), apart.1.0), (apart.0.1, apart.1.1)),
        λ rows. ap
            (λ all. said_from all xs) (with_said-apart rows x y apart.0.0),
      ),
    ))
    (λ xs ys zs h k. (
      IsPermutation-trans xs ys zs h.0 k.0,
      λ apart. let r = h.1 apart in let s = k.1 r.0 in (s.0, λ rows. r.1 rows ∙ s.1 rows),
    ))

-- values of keys of their own are told alike in each order
pub said_from-permuted : (xs ys : List Row) → IsPermutation xs ys → AreApart xs → (rows : Rows) → said_from rows xs
    ≡ said_from rows ys
said_from-permuted xs ys same apart = ((alike xs ys same).1 apart).1

pub still_apart : (xs ys : List Row) → IsPermutation xs ys → AreApart xs → AreApart ys
still_apart xs ys same apart = ((alike xs ys same).1 apart).0
