-- Values as cells, one after the other.
use Rattle.std.specs.Prelude.{IsUtf8, option_map}
use Rattle.std.specs.Str.{is_utf8}
use Rattle.std.proofs.Common.{◌≡◌, ℕ, zero, suc, ◌<◌, inl, inr, List, [], ◌∷◌, ◌++◌, length, Option, Some, None, Err, refl, ap, ◌∙◌, arith}
use Rattle.std.proofs.lemmas.Bool.{cases_Bool}
use Rattle.std.proofs.lemmas.Str.{IsUtf8-from_is_utf8, is_utf8-from_IsUtf8}
use Rattle.sqlite.specs.declared.types.Value.{Value}
use Rattle.sqlite.specs.declared.types.Value.TheVariants.{Text}
use Rattle.sqlite.specs.Order.{Row, column}
use Rattle.am_keeper.specs.declared.failure.KeepFail.{KeepFail}
use Rattle.am_keeper.specs.declared.failure.KeepFail.TheVariants.{Failed, NoMemory}
use Rattle.am_keeper.specs.declared.rows.Row.{Row as Kept}
use Rattle.am_rows.specs.declared.Cell.{Cell}
use Rattle.am_rows.specs.declared.Cell.TheVariants.{Words}
use Rattle.am_rows.specs.Cells.{◌>>=◌, row_in}
use Rattle.am_keeper_sql.specs.Told.{cell_in, cells_in, row_said}
use Rattle.am_keeper_sql.specs.Reading.{IsRead}
use Rattle.am_keeper_sql.proofs.Rows.{through, mapped}

pub text_cell : (t : List ℕ) → IsUtf8 t → cell_in (Text t) ≡ Some (Words t)
text_cell t fits = rw (is_utf8-from_IsUtf8 t fits)

pub no_text_cell : (t : List ℕ) → (IsUtf8 t → ⊥) → cell_in (Text t) ≡ None
no_text_cell t odd = elim (cases_Bool (is_utf8 t)) [
  | inl fits ↦ absurd (odd (IsUtf8-from_is_utf8 t fits))
  | inr other ↦ rw other
]

-- one more value is read
pub cells_pushed : (values : Row) (cells : List Cell) (v : Value) (c : Cell) → cells_in values ≡ Some cells → cell_in v
    ≡ Some c → cells_in (values ++ v ∷ []) ≡ Some (cells ++ c ∷ [])
cells_pushed [] cells v c h k = let none : cells ≡ [] = (let e = h in cc) in rw (k, none)
cells_pushed (first ∷ values) cells v c h k =
    let head = through (cell_in first) _ cells h in
    let rest = mapped (cells_in values) _ cells head.2 in
    ap (λ o. o >>= (λ x. option_map (λ cs. x ∷ cs) (cells_in (values ++ v ∷ [])))) head.1
    ∙ ap (option_map (λ cs. head.0 ∷ cs)) (cells_pushed values rest.0 v c rest.1 k)
    ∙ ap (λ cs. Some (cs ++ c ∷ [])) rest.2

-- a value that is no cell
pub cell_missing : (values : Row) (at : ℕ) → at < length values → cell_in (column values at) ≡ None → cells_in values
    ≡ None
cell_missing [] at low h = absurd (omega arith)
cell_missing (v ∷ values) zero low h = rw h
cell_missing (v ∷ values) (suc at) low h = by (cell_in v) (cell_missing values at (omega arith) h)
  where
    by : (o : Option Cell) → cells_in values ≡ None → (o >>= (λ c. option_map (λ cs. c ∷ cs) (cells_in values))) ≡ None
    by None rest = refl
    by (Some c) rest = rw rest

pub row_unread : (values : Row) (at : ℕ) (e : KeepFail) → at < length values
    → IsRead {X = Cell} (cell_in (column values at)) (Err e) → IsRead {X = List Cell} (cells_in values) (Err e)
row_unread values at Failed low h = cell_missing values at low h
row_unread values at NoMemory low h = tt

pub row_unsaid : (values : Row) (e : KeepFail) → IsRead {X = List Cell} (cells_in values) (Err e)
    → IsRead {X = Kept} (row_said values) (Err e)
row_unsaid values Failed h = ap (λ o. o >>= row_in) h
row_unsaid values NoMemory h = tt
