use Rattle.std.proofs.Common.{◌≡◌, take, Some}
use Rattle.am_keeper_sql.specs.Told.{cells_in}
use Rattle.am_keeper_sql.proofs.cells.cells_of.Given as goal

abbrev pub invariant-loop-at : goal.invariant-loop-at
invariant-loop-at l = cells_in (take l.at l.row) ≡ Some l.cells.items
