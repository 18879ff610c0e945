-- The kept rows that a table tells.
use Rattle.std.specs.Prelude.{List, [], ◌∷◌, map, Option, Some, None, option_map, if◌then◌else◌}
use Rattle.std.specs.Str.{is_utf8}
use Rattle.sqlite.specs.declared.types.Value.{Value}
use Rattle.sqlite.specs.declared.types.Value.TheVariants.{Null, Int, Real, Text, Blob}
use Rattle.sqlite.specs.Order.{Row}
use Rattle.sqlite.specs.Tree.{Trees}
use Rattle.am_keeper.specs.declared.rows.Row.{Row as Kept}
use Rattle.am_keeper.specs.declared.rows.Rows.{Rows}
use Rattle.am_keeper.specs.Rows.{no_rows, with_row}
use Rattle.am_rows.specs.declared.Cell.{Cell}
use Rattle.am_rows.specs.declared.Cell.TheVariants.{Whole, Words}
use Rattle.am_rows.specs.Cells.{◌>>=◌, cells_of, row_in}
use Rattle.am_keeper_sql.specs.Table.{values_of}

-- a cell as a value
abbrev pub value_of : Cell → Value
value_of (Whole n) = Int n
value_of (Words t) = Text t

-- the values of a kept row, in the order of the columns
abbrev pub values_for : Kept → Row
values_for row = map value_of (cells_of row)

-- a number, or a text in UTF-8, as a cell
abbrev pub cell_in : Value → Option Cell
cell_in Null = None
cell_in (Int n) = Some (Whole n)
cell_in (Real x) = None
cell_in (Text t) = if is_utf8 t then Some (Words t) else None
cell_in (Blob b) = None

-- values as cells, if each is a number or a text
abbrev pub cells_in : Row → Option (List Cell)
cells_in [] = Some []
cells_in (v ∷ vs) = cell_in v >>= (λ c. option_map (λ cs. c ∷ cs) (cells_in vs))

-- the kept row that values describe, if they describe one
abbrev pub row_said : Row → Option Kept
row_said values = cells_in values >>= row_in

-- these rows after the rows that the lists of values describe were put, one after the other, if each list describes one
abbrev pub told_from : Rows → List Row → Option Rows
told_from rows [] = Some rows
told_from rows (values ∷ more) = row_said values >>= (λ row. told_from (with_row rows row) more)

-- what the rows of the table show, without their rowids
abbrev pub shown_in : Trees → List Row
shown_in trees = map values_of (trees 0)

-- the kept rows that the table tells, if each of its rows describes one
abbrev pub told_in : Trees → Option Rows
told_in trees = told_from no_rows (shown_in trees)
