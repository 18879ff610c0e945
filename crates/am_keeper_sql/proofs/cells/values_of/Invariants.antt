use Rattle.std.proofs.Common.{◌≡◌, take, Some}
use Rattle.sqlite.specs.Values.{bound}
use Rattle.am_keeper_sql.specs.Told.{cells_in}
use Rattle.am_keeper_sql.proofs.cells.values_of.Given as goal

abbrev pub invariant-loop-cell : goal.invariant-loop-cell
invariant-loop-cell l = cells_in (bound l.values.items) ≡ Some (take l.cell-index l.cells)
