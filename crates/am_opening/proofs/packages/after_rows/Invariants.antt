use Rattle.std.proofs.Common.{◌≡◌, ◌<◌, take, Ok, All}
use Rattle.am_keeper.specs.declared.rows.PackageRow.{PackageRow}
use Rattle.am_history.specs.Opening.{after_rows}
use Rattle.am_history.specs.Packages.{no_uid}
use Rattle.am_opening.specs.Openings.{state_of}
use Rattle.am_opening.proofs.packages.after_rows.Given as goal

-- the rows so far opened as this, and none has the greatest uid
abbrev pub invariant-loop-row : goal.invariant-loop-row
invariant-loop-row l = record {
  opens : after_rows (state_of l.initial.opened) (take l.row-index l.rows) ≡ Ok (state_of l.opened);
  given : All (λ (row : PackageRow). row.uid < no_uid) (take l.row-index l.rows);
}
