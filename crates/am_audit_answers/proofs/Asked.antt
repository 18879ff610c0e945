-- Whether an entry of the history is the call of a frame.
use Rattle.std.proofs.Common.{◌≡◌, ℕ, List, refl, ap, ◌∙◌}
use Rattle.std.specs.Prelude.{Result, Ok, Err}
use Rattle.am_types.specs.declared.request.Request.{Request}
use Rattle.am_wire_routes.specs.declared.endpoint.Endpoint.{Endpoint}
use Rattle.am_wire_routes.specs.declared.routes.RouteFault.{RouteFault}
use Rattle.am_wire_routes.specs.declared.routes.RouteFault.TheVariants as faults
use Rattle.am_wire_routes.specs.Table.{endpoint_of}
use Rattle.am_wire_fields.specs.declared.fault.WireFault.{WireFault}
use Rattle.am_wire.specs.Requests.{request_of as request_at}
use Rattle.am_wire.proofs.Made.{read_is_made}
use Rattle.am_wire_read_back.specs.Written.{IsReadable}
use Rattle.am_frames.specs.Head.{Frame}
use Rattle.am_http.specs.Requests.{asked_at, request_of, request_or}

ok_is : {A B : Type 0} {x y : A} → ◌≡◌ {A = Result A B} (Ok x) (Ok y) → x ≡ y
ok_is e = cc

-- a request that was read of a body is read of it again
readable_or : (endpoint : Endpoint) (body : List ℕ) (request : Request) (read : Result Request WireFault)
    → request_at endpoint body ≡ read
    → request_or read ≡ Ok request → IsReadable request
readable_or endpoint body request (Ok found) reads asks =
    let is : request_at endpoint body ≡ Ok request = reads ∙ ap (λ (r : Request). Ok r) (ok_is asks) in
    (body, ap (λ (place : Endpoint). request_at place body) (read_is_made endpoint body request is).0 ∙ is)
readable_or endpoint body request (Err fault) reads asks = absurd cc

readable_at : (found : Result Endpoint RouteFault) (body : List ℕ) (request : Request) → asked_at found body
    ≡ Ok request → IsReadable request
readable_at (Ok endpoint) body request is = readable_or endpoint body request (request_at endpoint body) refl is
readable_at (Err faults.NoRoute) body request is = absurd cc
readable_at (Err (faults.NoMethod endpoint)) body request is = absurd cc

pub readable : (frame : Frame) (request : Request) → request_of frame ≡ Ok request → IsReadable request
readable frame request is = readable_at (endpoint_of frame.method frame.target) frame.body request is
