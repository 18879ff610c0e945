-- The loop's steps, whatever each call reads.
use Rattle.std.proofs.Common.{map}
use Rattle.std.proofs.lemmas.Result.{err_from_is_err_and}
use Rattle.toml.specs.View.{view}
use Rattle.am_manifest_filters.specs.Tables.{each}
use Rattle.am_manifest_filters.proofs.Each.{begins, goes_on, ends, is_done}
use Rattle.am_manifest_filters.proofs.tables.read_each.Goals as goal

pub loop-i-init : goal.loop-i-init
loop-i-init g c = λ what reads. rw c.new-items.ensures.items (begins (each what 0 (map view c.args.values.now)))

pub returns-in_err-item : goal.returns-in_err-item
returns-in_err-item g c = λ what reads.
    let p = err_from_is_err_and c.from_residual.result c.from_residual.ensures.1 in
    rw (p.1, p.2) (ends what c.loop-i.items.items c.loop-i.i c.args.values.now
    (each what 0 (map view c.args.values.now)) c.in_err-item.field-0.0 c.index-values-i.result c.loop-i-test.true
    c.index-values-i.is (reads _ _ _ c.in_err-item.ensures) (c.loop-i.invariant what reads))

pub loop-i-preserved : goal.loop-i-preserved
loop-i-preserved g c = λ what reads.
    rw c.in_ok-push.ensures.items (goes_on what c.loop-i.items.items c.loop-i.i c.args.values.now
    (each what 0 (map view c.args.values.now)) c.index-values-i.result c.in_ok-item.item c.loop-i-test.true
    c.index-values-i.is (reads _ _ _ c.in_ok-item.ensures) (c.loop-i.invariant what reads))

pub returns : goal.returns
returns g c = λ what reads.
    is_done what c.loop-i.items.items c.loop-i.i c.args.values.now (each what 0 (map view c.args.values.now))
    c.loop-i-test.false (c.loop-i.invariant what reads)
