use Rattle.std.proofs.Common.{Some, Err, take, sym, ap, subst, ◌∙◌}
use Rattle.std.proofs.lemmas.List.{take_more}
use Rattle.sqlite.specs.declared.types.Value.TheVariants.{Null}
use Rattle.sqlite.specs.Order.{column}
use Rattle.am_rows.specs.declared.Cell.{Cell}
use Rattle.am_keeper_sql.specs.Told.{cell_in, cells_in}
use Rattle.am_keeper_sql.specs.Reading.{IsRead}
use Rattle.am_keeper_sql.proofs.Values.{cells_pushed, row_unread}
use Rattle.am_keeper_sql.proofs.cells.cells_of.Goals as goal

pub returns-in-Err : goal.returns-in-Err
returns-in-Err c =
    let value = c.in-Ok.ensures.ok in
    row_unread c.args.row.now c.loop-at.at c.in-Err.fail value.0 (subst
    (λ v. IsRead {X = Cell} (cell_in v) (Err c.in-Err.fail)) value.1 c.in-Err.ensures.read)

pub loop-at-preserved : goal.loop-at-preserved
loop-at-preserved c =
    let row = c.args.row.now in
    let at = c.loop-at.at in
    let value = c.in-Ok.ensures.ok in
    let read = ap cell_in (sym value.1) ∙ c.in-Ok-cell_of.ensures.read in
    let more = cells_pushed (take at row) c.loop-at.cells.items (column row at) c.in-Ok-cell_of.cell c.loop-at.invariant
    read in
    ap cells_in (take_more row at Null value.0) ∙ more ∙ ap Some (sym c.in_ok-push-in-Ok-cell_of.ensures.items)
