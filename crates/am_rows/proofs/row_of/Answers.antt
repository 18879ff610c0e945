use Rattle.std.proofs.Common.{rules}
use Rattle.am_rows.specs.Cells.{row_in, IsReading}
use Rattle.am_rows.proofs.Cells.{cells_of-read}
use Rattle.am_rows.proofs.row_of.Goals as goal

pub returns-in-Some-Some-clause-inverse : goal.returns-in-Some-Some-clause-inverse
returns-in-Some-Some-clause-inverse c =
    let read : IsReading (row_in c.args.cells.now) c.row_from.result = search rules in
    cells_of-read c.args.cells.now c.row_from.result read
