-- What a frame asks of the manager, or why it doesn't reach it.
use Rattle.std.specs.Prelude.{ℕ, List, length, Some, None, Result, Ok, Err, codes}
use Rattle.am_types.specs.declared.request.Request.{Request}
use Rattle.am_history.specs.Steps.{Call}
use Rattle.am_wire_routes.specs.declared.endpoint.Endpoint.{Endpoint}
use Rattle.am_wire_routes.specs.declared.routes.RouteFault.{RouteFault}
use Rattle.am_wire_routes.specs.declared.routes.RouteFault.TheVariants as faults
use Rattle.am_wire_routes.specs.Table.{endpoint_of}
use Rattle.am_wire_fields.specs.declared.fault.WireFault.{WireFault}
use Rattle.am_wire_fields.specs.Printing.{printed}
use Rattle.am_wire.specs.Requests.{request_of as request_at}
use Rattle.am_http.specs.declared.answer.Refusal.{Refusal}
use Rattle.am_http.specs.declared.answer.Refusal.TheVariants.{NoRoute, NoMethod, BadRequest}
use Rattle.am_frames.specs.Head.{Frame}
use Rattle.am_http.specs.Responses.{refusal}

-- the request that was read of a body, or the refusal of its first fault
abbrev pub request_or : Result Request WireFault → Result Request Refusal
request_or (Ok request) = Ok request
request_or (Err fault) = Err (BadRequest fault)

-- the request that a body makes at the route that was looked up, or the refusal if there is no such route
abbrev pub asked_at : Result Endpoint RouteFault → List ℕ → Result Request Refusal
asked_at (Ok endpoint) body = request_or (request_at endpoint body)
asked_at (Err (faults.NoMethod endpoint)) body = Err NoMethod
asked_at (Err faults.NoRoute) body = Err NoRoute

-- the request that the frame makes, or why it makes none
abbrev pub request_of : Frame → Result Request Refusal
request_of frame = asked_at (endpoint_of frame.method frame.target) frame.body

-- the response to a frame that makes no request
abbrev pub refusal_text : Refusal → List ℕ
refusal_text NoRoute = refusal 404 (codes "no_route") None
refusal_text NoMethod = refusal 405 (codes "no_method") None
refusal_text (BadRequest fault) = refusal 400 (codes "bad_request") (Some (printed fault))

-- the call of a frame on a desk at a moment
abbrev pub call_of : ℕ → Frame → ℕ → Request → Call
call_of desk frame now request =
    record { desk = desk; key = frame.key; now = now; weight = length frame.body; request = request }
