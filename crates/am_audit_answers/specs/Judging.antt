-- How one frame is judged by the bytes of the responses.
use Rattle.std.specs.Prelude.{◌≡◌, ℕ, List, ◌++◌, None, Result, Ok, Err}
use Rattle.am_types.specs.declared.request.Request.{Request}
use Rattle.am_http.specs.declared.answer.Refusal.{Refusal}
use Rattle.am_frames.specs.Head.{Frame}
use Rattle.am_http.specs.Exchanges.{Exchange, IsAbove, floor_after}
use Rattle.am_http.specs.Requests.{request_of, refusal_text}
use Rattle.am_http.specs.Responses.{no_memory_before}
use Rattle.am_audit_answers.specs.Audits.{Ground, IsAudited}

-- a frame to judge: the history to judge it by, the least place of its call, the frame, and the bytes that are left of
-- the responses
pub record Case : Type 0 where
  pub ground : Ground
  pub floor : ℕ
  pub frame : Frame
  pub left : List ℕ

-- the case that these are
abbrev pub case_at : Ground → ℕ → Frame → List ℕ → Case
case_at ground floor frame left = record { ground = ground; floor = floor; frame = frame; left = left }

-- an exchange of the frame that the history has there; its response is the first of the bytes that are left
pub record Answers (c : Case) (e : Exchange) (rest : List ℕ) : Type 0 where
  pub frame : e.frame ≡ c.frame
  pub audited : IsAudited c.ground e
  pub above : IsAbove c.floor e.point
  pub bytes : c.left ≡ e.bytes ++ rest

-- there is such an exchange, and every such one leaves these bytes, and this least place of a later call
pub record Accepts (c : Case) (after : ℕ) (left : List ℕ) : Type 0 where
  pub exchange : Exchange
  pub answers : Answers c exchange left
  pub floor : floor_after c.floor exchange.point ≡ after
  pub only : (e : Exchange) (rest : List ℕ) → Answers c e rest
      → (rest ≡ left) × (floor_after c.floor e.point ≡ after)

-- there is none
abbrev pub Refuses : Case → Type 0
Refuses c = (e : Exchange) (rest : List ℕ) → Answers c e rest → ⊥

-- each exchange of the frame says that memory ran out before its call was made
abbrev pub OnlyRunsOut : Case → Type 0
OnlyRunsOut c = (e : Exchange) (rest : List ℕ) → Answers c e rest → (e.point ≡ None) × (e.bytes ≡ no_memory_before)

-- the request that a frame makes, or the text that refuses it
abbrev pub Asks : Frame → Result Request (List ℕ) → Type 0
Asks frame (Ok request) = request_of frame ≡ Ok request
Asks frame (Err text) = (refused : Refusal) × (request_of frame ≡ Err refused) × (text ≡ refusal_text refused)
