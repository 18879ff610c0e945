-- A request that is read again is formed.
use Rattle.std.proofs.Common.{◌≡◌, [], ap, ◌∙◌, IsTrue, false}
use Rattle.std.specs.Prelude.{Ok}
use Rattle.serde_json.specs.Written.{compact_text}
use Rattle.am_types.specs.declared.request.Request.{Request}
use Rattle.am_history.specs.Steps.{has_formed_row}
use Rattle.am_wire_routes.specs.Table.{endpoint_for, method_of, path_of}
use Rattle.am_wire_routes.proofs.Paths.{own_route}
use Rattle.am_wire_values.specs.Requests.{request_data}
use Rattle.am_frames.specs.Head.{Frame}
use Rattle.am_http.specs.Requests.{asked_at, request_of, request_or}
use Rattle.am_http.proofs.FormedLemmas.{a_read_request_is_formed}
use Rattle.am_audit_history.specs.Lines.{IsReadAgain}

-- a frame that asks for the request with its own text
frame_for : Request → Frame
frame_for r = record {
  method = method_of (endpoint_for r);
  target = path_of (endpoint_for r);
  key = [];
  body = compact_text (request_data r);
  close = false;
  length = 0;
}

asks_for : (r : Request) → IsReadAgain r → request_of (frame_for r) ≡ Ok r
unfolding frame_for
asks_for r again =
    ap (λ route. asked_at route (compact_text (request_data r))) (own_route (endpoint_for r))
    ∙ ap request_or again.again

pub read_again_is_formed : (r : Request) → IsReadAgain r → IsTrue (has_formed_row r)
read_again_is_formed r again = a_read_request_is_formed (frame_for r) r (asks_for r again)
