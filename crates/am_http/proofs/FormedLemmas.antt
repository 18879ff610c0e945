-- The requests that frames make have formed rows: an installation has an access key, and a link a host in lower case.
use Rattle.std.proofs.Common.{◌≡◌, ℕ, ◌==◌, ◌&&◌, Bool, true, List, [], ◌∷◌, refl, ap, ◌∙◌, subst, IsTrue, arith}
use Rattle.std.specs.Prelude.{IfOk, Result, Ok, Err}
use Rattle.am_types.specs.declared.request.Request.{Request}
use Rattle.am_types.specs.declared.request.Request.TheVariants as asks
use Rattle.am_model.specs.Texts.{is_same}
use Rattle.am_history.specs.Steps.{has_formed_row}
use Rattle.am_wire_routes.specs.declared.endpoint.Endpoint.{Endpoint}
use Rattle.am_wire_fields.specs.declared.fault.WireFault.{WireFault}
use Rattle.am_wire.specs.Requests.{request_of as request_at}
use Rattle.am_wire.proofs.Made.{HasForm, IsMade, body_is_made}
use Rattle.am_wire_routes.specs.declared.routes.RouteFault.{RouteFault}
use Rattle.am_wire_routes.specs.declared.routes.RouteFault.TheVariants as faults
use Rattle.am_wire_routes.specs.Table.{endpoint_of}
use Rattle.am_frames.specs.Head.{Frame}
use Rattle.am_http.specs.Requests.{request_of, request_or, asked_at}

abbrev IsFormed : Request → Type 0
IsFormed request = IsTrue (has_formed_row request)

-- a text is the same as itself
same_text : (text : List ℕ) → is_same text text ≡ true
same_text [] = refl
same_text (b ∷ bytes) = first (b == b) (grind (arith)) (same_text bytes)
  where
    first : (t : Bool) → t ≡ true → is_same bytes bytes ≡ true → t && is_same bytes bytes ≡ true
    first t head rest = ap (λ x. x && is_same bytes bytes) head ∙ rest

-- a request that has the form that is read is formed
formed : (request : Request) → HasForm request → IsFormed request
formed (asks.Install text key) is = is
formed (asks.Link name host approved) is = ap (λ (text : List ℕ). is_same text host) is ∙ same_text host
formed _ is = refl

-- so is what was read, where it was read
formed_or : (endpoint : Endpoint) (read : Result Request WireFault) (request : Request) → IfOk read (IsMade endpoint)
    → request_or read ≡ Ok request → IsFormed request
formed_or endpoint (Err fault) request made is = absurd (cc)
formed_or endpoint (Ok read) request made is =
    let same : read ≡ request = cc in
    subst IsFormed same (formed read made.1)

-- what is asked where a route was looked up is formed
formed_at : (route : Result Endpoint RouteFault) (body : List ℕ) (request : Request) → asked_at route body ≡ Ok request
    → IsFormed request
formed_at (Ok endpoint) body request is = formed_or endpoint (request_at endpoint body) request
    (body_is_made endpoint body) is
formed_at (Err faults.NoRoute) body request is = absurd (cc)
formed_at (Err (faults.NoMethod endpoint)) body request is = absurd (cc)

-- the request that a frame makes is formed
pub a_read_request_is_formed : (frame : Frame) (request : Request) → request_of frame ≡ Ok request
    → IsTrue (has_formed_row request)
a_read_request_is_formed frame request is = formed_at (endpoint_of frame.method frame.target) frame.body request is
