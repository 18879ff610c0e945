-- The text reads as the request's value, from which the request is read again.
use Rattle.serde_json.specs.View.{view}
use Rattle.am_wire_read_back.proofs.ReadBack.{text_read_back}
use Rattle.am_wire_read_back.proofs.bodies.request_text.Goals as goal

pub returns-clause-read_back : goal.returns-clause-read_back
returns-clause-read_back c =
    text_read_back c.in_ok-to_string.field-0 (view c.in_ok-request_value.field-0) c.args.request.now
    c.in_ok-request_value.ensures c.in_ok-to_string.ensures.reads_back
