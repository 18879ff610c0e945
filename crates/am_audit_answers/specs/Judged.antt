-- The verdict on a frame, as code has it.
use Rattle.std.specs.Prelude.{◌≡◌, ℕ, ◌≤◌, ◌⊎◌, Bool, true, false, List, ◌++◌, length, drop, take, slice_get, Option, Some, None, MatchOption}
use Rattle.am_types.specs.declared.history.Entry.{Entry}
use Rattle.am_types.specs.declared.history.Shown.{Shown}
use Rattle.am_types.specs.declared.request.Request.{Request}
use Rattle.am_history.specs.Steps.{Call}
use Rattle.am_frames.specs.Head.{Frame}
use Rattle.am_http.specs.Requests.{call_of}
use Rattle.am_http.specs.Responses.{response, no_memory_at}
use Rattle.am_audit_history.specs.Replays.{Replay, ShowsKept, state_of}
use Rattle.am_audit_answers.specs.declared.calls.Making.{Making}
use Rattle.am_audit_answers.specs.declared.judging.Accepted.{Accepted}
use Rattle.am_audit_answers.specs.Audits.{Ground}
use Rattle.am_audit_answers.specs.Judging.{Accepts, Case, Refuses, case_at}
use Rattle.am_audit_answers.specs.Matching.{IsItsCall, IsRecord, IsReplayed}

-- what an audit by this history is held against
abbrev pub ground_of : List Entry → Replay → Ground
ground_of history replayed = record { start = replayed.start; history = history }

-- an audit by a history that could have been made has replayed the first of its entries
pub record Stands (history : List Entry) (replayed : Replay) : Type 0 where
  pub made : IsRecord (ground_of history replayed)
  pub first : IsReplayed (ground_of history replayed) replayed

-- a frame that is judged after an audit by this history has come so far, by the bytes that are left
abbrev pub case_of : List Entry → Replay → Frame → List ℕ → Case
case_of history replayed frame left = case_at (ground_of history replayed) (length replayed.history) frame left

-- the frame is accepted, by so many bytes, with the history replayed up to the next place
pub record IsAccepted (c : Case) (accepted : Accepted) : Type 0 where
  pub accepts : Accepts c (length accepted.replayed.history) (drop accepted.taken c.left)
  pub taken : accepted.taken ≤ length c.left
  pub start : accepted.replayed.start ≡ c.ground.start
  pub replayed : IsReplayed c.ground accepted.replayed

-- the frame is accepted, or refused
abbrev pub Judges : Case → Option Accepted → Type 0
Judges c (Some accepted) = IsAccepted c accepted
Judges c None = Refuses c

-- the bytes are the response that shows this, or the one that says that memory ran out after it
abbrev pub IsShownBy : Shown → List ℕ → Type 0
IsShownBy shown bytes =
    (bytes ≡ response shown.at shown.stored shown.reply) ⊎ (bytes ≡ no_memory_at shown.at shown.stored)

-- so many bytes are such a response, and the bytes begin with no other one; or they begin with none
abbrev pub ShowsFirst : Shown → List ℕ → Option ℕ → Type 0
ShowsFirst shown left (Some taken) =
    (taken ≤ length left) × IsShownBy shown (take taken left)
    × ((bytes rest : List ℕ) → IsShownBy shown bytes → left ≡ bytes ++ rest → rest ≡ drop taken left)
ShowsFirst shown left None = (bytes rest : List ℕ) → IsShownBy shown bytes → left ≡ bytes ++ rest → ⊥

-- this is shown of a call that is stored or not as was said, and so many bytes show it; or it isn't, or none do
abbrev pub ShowsAs : Bool → Shown → List ℕ → Option ℕ → Type 0
ShowsAs stored shown left (Some taken) = (shown.stored ≡ stored) × ShowsFirst shown left (Some taken)
ShowsAs stored shown left None = shown.stored ≡ stored → ShowsFirst shown left None

-- a call was made at the end of a history, which goes on so, and so many bytes show it if it is stored or not as was
-- said
pub record IsMade (before : Replay) (call : Call) (stored : Bool) (left : List ℕ)
    (made : Replay × Option ℕ) : Type 0 where
  pub shown : Shown
  pub shows : ShowsKept before call made.0 shown
  pub taken : ShowsAs stored shown left made.1

-- the entry after those that were replayed is the frame's call
pub record IsNext (history : List Entry) (replayed : Replay) (frame : Frame) (request : Request)
    (next : Entry) : Type 0 where
  pub there : slice_get history (length replayed.history) ≡ Some next
  pub its : IsItsCall (state_of replayed) frame request next

-- the call is made as that entry was; or there is none
abbrev pub IsNextMaking : List Entry → Replay → Frame → Request → Option Making → Type 0
IsNextMaking history replayed frame request (Some making) =
    (next : Entry) × IsNext history replayed frame request next
    × (making ≡ record { desk = next.desk; now = next.now; stored = true })
IsNextMaking history replayed frame request None = (next : Entry) → IsNext history replayed frame request next → ⊥

-- a call that is stored is made as the next entry was, and another at moment 0
abbrev pub IsMakingOf : List Entry → Replay → Frame → Request → Bool → Option Making → Type 0
IsMakingOf history replayed frame request true making = IsNextMaking history replayed frame request making
IsMakingOf history replayed frame request false (Some making) = making ≡ record { desk = 0; now = 0; stored = false }
IsMakingOf history replayed frame request false None = ⊥

-- a call that was made so at the end of the history that was replayed: the frame is accepted by the bytes that show it,
-- or it isn't
pub record ComesTo (replayed : Replay) (frame : Frame) (request : Request) (making : Making) (left : List ℕ)
    (judged : Option Accepted) : Type 0 where
  pub made : Replay × Option ℕ
  pub shows : IsMade replayed (call_of making.desk frame making.now request) making.stored left made
  pub takes : MatchOption judged (made.1 ≡ None) (λ a. (a.replayed ≡ made.0) × (made.1 ≡ Some a.taken))
