-- When an entry of the history is a frame's call, and how a history is replayed up to a place.
use Rattle.std.specs.Prelude.{◌≡◌, ℕ, ◌≤◌, IsUtf8, length, take, Option, Some, None, Ok, All}
use Rattle.am_types.specs.Bounds.{longest_body}
use Rattle.am_types.specs.declared.history.Entry.{Entry}
use Rattle.am_types.specs.declared.request.Request.{Request}
use Rattle.am_history.specs.State.{State, uid_of}
use Rattle.am_history.specs.History.{IsLegal}
use Rattle.am_frames.specs.Head.{Frame}
use Rattle.am_http.specs.Requests.{request_of}
use Rattle.am_audit_history.specs.Replays.{Replay}
use Rattle.am_audit_history.specs.Lines.{IsWhole}
use Rattle.am_audit_answers.specs.Audits.{Ground}

-- a frame with the key and the body of a whole one makes this request
pub record MakesRequest (frame : Frame) (request : Request) : Type 0 where
  pub key : IsUtf8 frame.key
  pub body : length frame.body ≤ longest_body
  pub asks : request_of frame ≡ Ok request

-- in this state the entry is the call of the frame with this request, on any desk
pub record IsItsCall (state : State) (frame : Frame) (request : Request) (entry : Entry) : Type 0 where
  pub uid : uid_of state frame.key ≡ Some entry.uid
  pub weight : entry.weight ≡ length frame.body
  pub asks : entry.request ≡ request

-- a history that could have been made, of whole entries
pub record IsRecord (ground : Ground) : Type 0 where
  pub legal : IsLegal ground.start ground.history
  pub whole : All IsWhole ground.history

-- the first entries of the history were replayed
pub record IsReplayed (ground : Ground) (r : Replay) : Type 0 where
  pub start : r.start ≡ ground.start
  pub within : length r.history ≤ length ground.history
  pub first : r.history ≡ take (length r.history) ground.history

-- the history was replayed up to this place, unless it is before the one that was reached, or after the history's end
abbrev pub GoesTo : Ground → Replay → ℕ → Option Replay → Type 0
GoesTo ground before at (Some after) =
    IsReplayed ground after × (length after.history ≡ at) × (length before.history ≤ at)
GoesTo ground before at None = length before.history ≤ at → at ≤ length ground.history → ⊥
