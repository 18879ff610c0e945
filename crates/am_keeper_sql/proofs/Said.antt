-- Rows of a table that each say a kept row.
use Rattle.std.specs.Prelude.{IsSome}
use Rattle.std.proofs.Common.{◌≡◌, List, [], ◌∷◌, Option, Some, None, refl, sym, subst}
use Rattle.std.specs.List.{AllByRecursion}
use Rattle.sqlite.specs.Order.{Row}
use Rattle.sqlite.specs.Tree.{Trees}
use Rattle.am_keeper.specs.declared.rows.Row.{Row as Kept}
use Rattle.am_keeper.specs.declared.rows.Rows.{Rows}
use Rattle.am_keeper.specs.Rows.{no_rows, with_row}
use Rattle.am_rows.specs.Cells.{◌>>=◌}
use Rattle.am_keeper_sql.specs.Told.{row_said, shown_in, told_from, told_in}

-- each list of values says a kept row
abbrev pub AllSay : List Row → Type 0
AllSay = AllByRecursion (λ values. IsSome (row_said values))

-- the rows with this one put, if there is one
abbrev pub with_said : Rows → Option Kept → Rows
with_said rows None = rows
with_said rows (Some row) = with_row rows row

-- the rows with those put that lists of values say, whatever the others say
abbrev pub said_from : Rows → List Row → Rows
said_from rows [] = rows
said_from rows (values ∷ more) = said_from (with_said rows (row_said values)) more

abbrev pub said_in : Trees → Rows
said_in trees = said_from no_rows (shown_in trees)

-- where each says a kept row, these are what is told
pub told_all : (rows : Rows) (list : List Row) → AllSay list → told_from rows list ≡ Some (said_from rows list)
told_all rows [] all = refl
told_all rows (values ∷ more) all = by (row_said values) all.0 (λ row. told_all (with_row rows row) more all.1)
  where
    by : (o : Option Kept) → IsSome o → ((row : Kept) → told_from (with_row rows row) more
        ≡ Some (said_from (with_row rows row) more))
        → (o >>= (λ row. told_from (with_row rows row) more)) ≡ Some (said_from (with_said rows o) more)
    by None h rest = absurd (let e = h in cc)
    by (Some row) h rest = rest row

-- and each does where something is told
pub all_told : (rows : Rows) (list : List Row) → IsSome (told_from rows list) → AllSay list
all_told rows [] h = tt
all_told rows (values ∷ more) h = by (row_said values) refl h (λ row. all_told (with_row rows row) more)
  where
    by : (o : Option Kept) → row_said values ≡ o → IsSome (o >>= (λ row. told_from (with_row rows row) more))
        → ((row : Kept) → IsSome (told_from (with_row rows row) more) → AllSay more)
        → AllSay (values ∷ more)
    by None is h rest = absurd (let e = h in cc)
    by (Some row) is h rest = (subst IsSome (sym is) refl, rest row h)

pub told_said : (trees : Trees) → AllSay (shown_in trees) → told_in trees ≡ Some (said_in trees)
told_said trees all = told_all no_rows (shown_in trees) all
