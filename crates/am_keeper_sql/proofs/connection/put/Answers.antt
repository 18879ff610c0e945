use Rattle.std.proofs.Common.{Some, ap, ◌∙◌}
use Rattle.sqlite.specs.Values.{bound}
use Rattle.am_keeper_sql.specs.Told.{cells_in}
use Rattle.am_keeper_sql.proofs.Rows.{row_said_from}
use Rattle.am_keeper_sql.proofs.connection.put.Goals as goal

pub returns-in-Ok-upsert-clause-put : goal.returns-in-Ok-upsert-clause-put
returns-in-Ok-upsert-clause-put g c honest keeps =
    let read = ap (λ values. cells_in (bound values)) c.as_slice-2.ensures.value ∙ c.in-Ok-values_of.ensures
    ∙ ap Some c.as_slice.ensures in
    c.in-Ok-upsert.ensures.put honest keeps c.args.row.now (row_said_from (bound c.as_slice-2.result.now) c.in-Ok.cells
    c.args.row.now read c.in-Ok.ensures.inverse)
