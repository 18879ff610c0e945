use Rattle.std.proofs.Common.{◌≡◌, fold}
use Rattle.am_filter.specs.Rows.{with_row, no_rows}
use Rattle.am_filter.specs.Rows.{merged}
use Rattle.am_filter.proofs.rows.merge_rows.Given as goal

abbrev pub invariant-loop-row : goal.invariant-loop-row
invariant-loop-row l = merged l.all ≡ fold with_row no_rows l.yielded
