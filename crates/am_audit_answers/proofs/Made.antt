-- A frame whose response says that its call was made at the place that was reached, stored or not.
use Rattle.std.proofs.Common.{◌≡◌, ℕ, ◌<◌, ◌^◌, Bool, true, false, List, length, subst}
use Rattle.std.specs.Prelude.{Option, Some, None, Result, Ok, Err, IfOk}
use Rattle.am_types.specs.declared.failure.NoMemory.{NoMemory}
use Rattle.am_types.specs.declared.history.Entry.{Entry}
use Rattle.am_types.specs.declared.request.Request.{Request}
use Rattle.am_frames.specs.Head.{Frame}
use Rattle.am_http.specs.Requests.{request_of}
use Rattle.am_audit_history.specs.Replays.{Replay}
use Rattle.am_audit_answers.specs.declared.calls.Making.{Making}
use Rattle.am_audit_answers.specs.declared.judging.Accepted.{Accepted}
use Rattle.am_audit_answers.specs.Judged.{ComesTo, IsMakingOf, Judges, Stands, case_of}
use Rattle.am_audit_answers.specs.Judging.{Refuses}
use Rattle.am_audit_answers.specs.Marks.{SaysOnly}
use Rattle.am_audit_answers.proofs.Going.{next_is_whole}
use Rattle.am_audit_answers.proofs.Stored.{refuses_next, stored_judged}
use Rattle.am_audit_answers.proofs.Unstored.{unstored_judged}

-- such a frame is judged by what its call comes to
made_judged : (history : List Entry) (replayed : Replay) (frame : Frame) (left : List ℕ) (request : Request) (stored : Bool)
    (making : Making)
    (result : Option Accepted) → Stands history replayed → request_of frame ≡ Ok request
    → SaysOnly left (length replayed.history) stored
    → length history < 2 ^ 64 → length left < 2 ^ 64 → IsMakingOf history replayed frame request stored (Some making)
    → ComesTo replayed frame request making left result → Judges (case_of history replayed frame left) result
made_judged history replayed frame left request true making result stands asks says short few is comes =
    let next = is.0 in
    let so = subst (λ (m : Making). ComesTo replayed frame request m left result) is.2 comes in
    stored_judged history replayed frame left request asks says short few stands.first next is.1.there
    (next_is_whole history (length replayed.history) next stands.made.whole is.1.there).kept is.1.its so.made.0
    so.shows.shown so.shows.shows so.made.1 result so.shows.taken so.takes
made_judged history replayed frame left request false making result stands asks says short few is comes =
    let so = subst (λ (m : Making). ComesTo replayed frame request m left result) is comes in
    unstored_judged history replayed frame left request stands.first so.made.0 so.shows.shown so.shows.shows
    asks says short few so.made.1 result so.shows.taken so.takes

pub made_judged_if : (history : List Entry) (replayed : Replay) (frame : Frame) (left : List ℕ) (request : Request)
    (stored : Bool) (making : Making)
    (result : Result (Option Accepted) NoMemory) → Stands history replayed → request_of frame ≡ Ok request
    → SaysOnly left (length replayed.history) stored → length history < 2 ^ 64 → length left < 2 ^ 64
    → IsMakingOf history replayed frame request stored (Some making) → IfOk result
    (λ judged. ComesTo replayed frame request making left judged)
    → IfOk result (λ judged. Judges (case_of history replayed frame left) judged)
made_judged_if history replayed frame left request stored making (Ok judged) stands asks says short few is comes =
    made_judged history replayed frame left request stored making judged stands asks says short few is comes
made_judged_if history replayed frame left request stored making (Err ran_out) stands asks says short few is comes = tt

-- and refused if its call can't be made so
pub unmade_refused : (history : List Entry) (replayed : Replay) (frame : Frame) (left : List ℕ) (request : Request)
    (stored : Bool) → Stands history replayed
    → request_of frame ≡ Ok request → SaysOnly left (length replayed.history) stored → length history < 2 ^ 64
    → length left < 2 ^ 64
    → IsMakingOf history replayed frame request stored None → Refuses (case_of history replayed frame left)
unmade_refused history replayed frame left request true stands asks says short few never =
    refuses_next history replayed frame left request asks says short few stands.first never
unmade_refused history replayed frame left request false stands asks says short few never = absurd never
