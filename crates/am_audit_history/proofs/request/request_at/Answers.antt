use Rattle.std.proofs.Common.{sym, ap, ◌∙◌}
use Rattle.serde_json.specs.View.{view}
use Rattle.am_wire.specs.Requests.{request_of}
use Rattle.am_wire.proofs.Made.{read_is_made}
use Rattle.am_audit_history.proofs.Entries.{found_is, not_refused}
use Rattle.am_audit_history.proofs.request.request_at.Goals as goal

pub if_written-requires : goal.if_written-requires
if_written-requires c =
    ap (λ e. request_of e c.as_str.result.now) (read_is_made c.args.endpoint c.as_bytes.result.now c.in-Ok.request
    c.in-Ok.ensures).0
    ∙ ap (request_of c.args.endpoint) (c.as_str.ensures.value ∙ sym c.as_bytes.ensures.value)
    ∙ c.in-Ok.ensures

pub returns-in-Ok-clause-finds : goal.returns-in-Ok-clause-finds
returns-in-Ok-clause-finds c = λ request at is again.
    found_is c.args.endpoint c.as_str.result.now (view c.args.said.now) c.in-Ok.request request c.if_written.result at
    is again
    (λ none. c.as_str.ensures.value ∙ c.in_ok-body.ensures.text none)
    (ap (request_of c.args.endpoint) (c.as_str.ensures.value ∙ sym c.as_bytes.ensures.value) ∙ c.in-Ok.ensures)
    c.if_written.ensures.finds

pub returns-in-Err-Fault-clause-finds : goal.returns-in-Err-Fault-clause-finds
returns-in-Err-Fault-clause-finds c = λ request at is again.
    absurd (not_refused c.args.endpoint c.as_bytes.result.now (view c.args.said.now) request c.in-Err-Fault.field-0-0 at
    is again
    (λ none. c.as_bytes.ensures.value ∙ c.in_ok-body.ensures.text none)
    (rw c.in-Err-Fault.field-0-is at c.in-Err-Fault.ensures))
