-- The loop's steps.
use Rattle.std.proofs.Common.{map}
use Rattle.std.proofs.lemmas.Result.{err_from_is_err_and}
use Rattle.serde_json.specs.View.{view}
use Rattle.am_wire_fields.specs.Lists.{each}
use Rattle.am_wire_fields.proofs.Each.{goes_on, ends, is_done}
use Rattle.am_wire_intents.specs.Filters.{row_in}
use Rattle.am_wire_intents.proofs.rows.each_row.Goals as goal

pub returns-in_err-row : goal.returns-in_err-row
returns-in_err-row c =
    let p = err_from_is_err_and c.from_residual.result c.from_residual.ensures.1 in
    rw (p.1, p.2) (ends row_in c.loop-value.rows.items c.loop-value.value-index c.args.values.now
    (each row_in (map view c.args.values.now)) c.in_err-row.field-0.0 c.value-item.result c.loop-value-test.true
    c.value-item.is c.in_err-row.ensures c.loop-value.invariant)

pub loop-value-preserved : goal.loop-value-preserved
loop-value-preserved c =
    rw c.in_ok-push.ensures.items (goes_on row_in c.loop-value.rows.items c.loop-value.value-index c.args.values.now
    (each row_in (map view c.args.values.now)) c.value-item.result c.in_ok-row.row c.loop-value-test.true
    c.value-item.is c.in_ok-row.ensures c.loop-value.invariant)

pub returns : goal.returns
returns c =
    is_done row_in c.loop-value.rows.items c.loop-value.value-index c.args.values.now
    (each row_in (map view c.args.values.now)) c.loop-value-test.false c.loop-value.invariant
