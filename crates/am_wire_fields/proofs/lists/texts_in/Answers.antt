-- The loop's steps.
use Rattle.std.proofs.Common.{map}
use Rattle.std.proofs.lemmas.Result.{err_from_is_err_and}
use Rattle.serde_json.specs.View.{view}
use Rattle.am_wire_fields.specs.Texts.{text_in}
use Rattle.am_wire_fields.specs.Lists.{each, texts_in}
use Rattle.am_wire_fields.proofs.Each.{goes_on, ends, is_done}
use Rattle.am_wire_fields.proofs.lists.texts_in.Goals as goal

pub returns-in_err-text : goal.returns-in_err-text
unfolding texts_in
returns-in_err-text c =
    let p = err_from_is_err_and c.from_residual.result c.from_residual.ensures.1 in
    let read = text_in c.args.form 1024 c.args.name.now in
    rw (p.1, p.2) (ends read c.loop-value.texts.items c.loop-value.value-index c.args.values.now
    (each read (map view c.args.values.now)) c.in_err-text.field-0.0 c.value-item.result c.loop-value-test.true
    c.value-item.is c.in_err-text.ensures c.loop-value.invariant)

pub loop-value-preserved : goal.loop-value-preserved
loop-value-preserved c =
    let read = text_in c.args.form 1024 c.args.name.now in
    rw c.in_ok-push.ensures.items (goes_on read c.loop-value.texts.items c.loop-value.value-index c.args.values.now
    (each read (map view c.args.values.now)) c.value-item.result c.in_ok-text.text c.loop-value-test.true
    c.value-item.is c.in_ok-text.ensures c.loop-value.invariant)

pub returns : goal.returns
unfolding texts_in
returns c =
    let read = text_in c.args.form 1024 c.args.name.now in
    is_done read c.loop-value.texts.items c.loop-value.value-index c.args.values.now
    (each read (map view c.args.values.now)) c.loop-value-test.false c.loop-value.invariant
