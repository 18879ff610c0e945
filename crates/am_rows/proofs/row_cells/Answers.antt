use Rattle.std.proofs.Common.{◌≡◌, ◌<◌, rules, sym, ◌∙◌}
use Rattle.am_rows.specs.Cells.{cells_of}
use Rattle.am_rows.proofs.Cells.{uid_in, cells_of-row_in, row_in-cells_of}
use Rattle.am_rows.proofs.row_cells.Goals as goal
use Rattle.am_rows.proofs.row_cells.Goals.{in-Package+in_ok-cells-in-Package, in-Grant+in_ok-cells-in-Grant, in-Link+in_ok-cells-in-Link}

pub returns-clause-inverse : goal.returns-clause-inverse
returns-clause-inverse c =
    let made : c.new.result ≡ cells_of c.args.row.now = search rules in
    let fits : uid_in c.args.row.now < 4294967296 = elim c.match-row.branch [
      | in-Package+in_ok-cells-in-Package w ↦ rw w.in-Package.is w.package_cells.ensures.uid
      | in-Grant+in_ok-cells-in-Grant w ↦ rw w.in-Grant.is w.word_cells.ensures.uid
      | in-Link+in_ok-cells-in-Link w ↦ rw w.in-Link.is w.word_cells-in-Link.ensures.uid
    ] in
    rw made (row_in-cells_of c.args.row.now fits)

pub returns-clause-only : goal.returns-clause-only
returns-clause-only c other read =
    let made : c.new.result ≡ cells_of c.args.row.now = search rules in
    sym (cells_of-row_in other c.args.row.now read) ∙ sym made
