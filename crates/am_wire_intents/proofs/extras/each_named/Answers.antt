-- The loop's steps.
use Rattle.std.proofs.Common.{String, Global}
use Rattle.std.proofs.lemmas.Result.{err_from_is_err_and}
use Rattle.serde_json.specs.View.{members_view}
use Rattle.serde_json.specs.declared.value.Value.{Value}
use Rattle.am_wire_intents.specs.Extras.{each_named}
use Rattle.am_wire_intents.proofs.Entries.{goes_on, ends, is_done}
use Rattle.am_wire_intents.proofs.extras.each_named.Goals as goal

pub returns-in_err-extra : goal.returns-in_err-extra
returns-in_err-extra c =
    let p = err_from_is_err_and c.from_residual.result c.from_residual.ensures.1 in
    let e : String Global × Value = (c.in-Some.key.now, c.in-Some.value.now) in
    let met = rw c.as_str.ensures.value at c.in_err-extra.ensures in
    rw (p.1, p.2) (ends c.loop-key.extras.items c.loop-key.key-iterator e c.next.new.self c.in-Some.ensures.steps
    (each_named (members_view c.args.members.now.entries)) c.in_err-extra.field-0.0 met c.loop-key.invariant)

pub loop-key-preserved : goal.loop-key-preserved
loop-key-preserved c =
    let e : String Global × Value = (c.in-Some.key.now, c.in-Some.value.now) in
    let read = rw c.as_str.ensures.value at c.in_ok-extra.ensures in
    rw c.in_ok-push.ensures.items (goes_on c.loop-key.extras.items c.loop-key.key-iterator e c.next.new.self
    c.in-Some.ensures.steps (each_named (members_view c.args.members.now.entries)) c.in_ok-extra.extra read
    c.loop-key.invariant)

pub returns : goal.returns
returns c = is_done c.loop-key.extras.items c.loop-key.key-iterator
    (each_named (members_view c.args.members.now.entries)) c.in-None.ensures.steps.0 c.loop-key.invariant
