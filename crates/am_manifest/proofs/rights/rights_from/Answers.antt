-- The loop's steps.
use Rattle.std.proofs.Common.{map}
use Rattle.std.proofs.lemmas.Result.{err_from_is_err_and}
use Rattle.toml.specs.View.{view}
use Rattle.am_manifest.specs.Rights.{rights_from}
use Rattle.am_manifest.specs.RightsHeld.{place_in, texts_in}
use Rattle.am_manifest.proofs.Holders.{entry_fails, limit_fails, right_more, rights_done}
use Rattle.am_manifest.proofs.rights.rights_from.Goals as goal

pub returns-in_err-right : goal.returns-in_err-right
returns-in_err-right c =
    let p = err_from_is_err_and c.from_residual.result c.from_residual.ensures.1 in
    let place = place_in c.args.places.now in
    let whole = rights_from place c.args.kind (texts_in c.args.held) 0 (map view c.args.values.now) in
    rw (p.1, p.2) (entry_fails place c.args.kind (texts_in c.loop-i.held) c.loop-i.i c.args.values.now whole
    c.in_err-right.field-0.0 c.index-values-i.result c.loop-i-test.true c.index-values-i.is c.in_err-right.ensures
    c.loop-i.invariant)

pub returns-in_err-held : goal.returns-in_err-held
returns-in_err-held c =
    let p = err_from_is_err_and c.from_residual-in_err-held.result c.from_residual-in_err-held.ensures.1 in
    let place = place_in c.args.places.now in
    let whole = rights_from place c.args.kind (texts_in c.args.held) 0 (map view c.args.values.now) in
    rw (p.1, p.2) (limit_fails place c.args.kind (texts_in c.loop-i.held) c.loop-i.i c.args.values.now whole
    c.in_err-held.field-0.0 c.index-values-i.result c.in_ok-right.right c.loop-i-test.true c.index-values-i.is
    c.in_ok-right.ensures c.in_err-held.ensures c.loop-i.invariant)

pub loop-i-preserved : goal.loop-i-preserved
loop-i-preserved c =
    let place = place_in c.args.places.now in
    let whole = rights_from place c.args.kind (texts_in c.args.held) 0 (map view c.args.values.now) in
    right_more place c.args.kind (texts_in c.loop-i.held) c.loop-i.i c.args.values.now whole c.index-values-i.result
    c.in_ok-right.right (texts_in c.in_ok-held.held) c.loop-i-test.true c.index-values-i.is c.in_ok-right.ensures
    c.in_ok-held.ensures c.loop-i.invariant

pub returns : goal.returns
returns c =
    let place = place_in c.args.places.now in
    let whole = rights_from place c.args.kind (texts_in c.args.held) 0 (map view c.args.values.now) in
    rights_done place c.args.kind (texts_in c.loop-i.held) c.loop-i.i c.args.values.now whole c.loop-i-test.false
    c.loop-i.invariant
