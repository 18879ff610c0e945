-- Frames with their responses, and their places in the history.
use Rattle.std.specs.Prelude.{◌≡◌, ℕ, ◌+◌, ◌≤◌, Bool, IsTrue, if◌then◌else◌, List, [], ◌∷◌, ◌++◌, length, take, slice_get, Option, Some, None, Ok, Err, ⊤}
use Rattle.std.specs.Bool.{OnTrue}
use Rattle.std.specs.List.{flat_map, AllByRecursion}
use Rattle.std.specs.Option.{option_to_list}
use Rattle.am_types.specs.declared.reply.Reply.{Reply}
use Rattle.am_types.specs.declared.request.Request.{Request}
use Rattle.am_types.specs.declared.history.Entry.{Entry}
use Rattle.am_types.specs.declared.history.Shown.{Shown}
use Rattle.am_history.specs.State.{State}
use Rattle.am_history.specs.Steps.{Call}
use Rattle.am_history.specs.History.{replay, is_stored, reply_after, IsEntryOf, entries_of, Extends}
use Rattle.am_history.specs.Desks.{DeskView, start_of, Shows, SeesOthers}
use Rattle.am_http.specs.declared.answer.Refusal.{Refusal}
use Rattle.am_frames.specs.Head.{Frame}
use Rattle.am_http.specs.Requests.{request_of, refusal_text, call_of}
use Rattle.am_http.specs.Responses.{response, no_memory_before, no_memory_at}

-- the place in the history at which a call was made, and whether it was stored there
pub record Point : Type 0 where
  pub at : ℕ
  pub stored : Bool

-- a frame with the moment that the clock was asked for, if it was, the call's place in the history, if it was made,
-- and the response
pub record Exchange : Type 0 where
  pub frame : Frame
  pub now : Option ℕ
  pub point : Option Point
  pub bytes : List ℕ

-- the history has an entry at that place, and it is the one meant
abbrev pub HasEntry : List Entry → ℕ → (Entry → Type 0) → Type 0
HasEntry history at IsMeant = (entry : Entry) × (slice_get history at ≡ Some entry) × IsMeant entry

-- the call was made at that place of the history, and is stored there if the point says so, kept or not
pub record IsMarked (start : State) (history : List Entry) (call : Call) (kept : Bool) (point : Point) : Type 0 where
  pub within : point.at ≤ length history
  pub stored : point.stored ≡ is_stored (replay start (take point.at history)) (take point.at history) call
  pub entry : OnTrue point.stored
      (HasEntry history point.at (IsEntryOf (replay start (take point.at history)) call kept))

-- the request of a frame on a desk was made as a call at the exchange's moment and point
pub record IsCalled (start : State) (desk : ℕ) (history : List Entry) (e : Exchange) : Type 0 where
  pub request : Request
  pub asks : request_of e.frame ≡ Ok request
  pub now : ℕ
  pub asked : e.now ≡ Some now
  pub kept : Bool
  pub point : Point
  pub placed : e.point ≡ Some point
  pub marked : IsMarked start history (call_of desk e.frame now request) kept point

-- the reply to the call of an exchange
abbrev pub reply_of : (start : State) (desk : ℕ) (history : List Entry) (e : Exchange)
    → IsCalled start desk history e → Reply
reply_of start desk history e c =
    reply_after start (take c.point.at history) (call_of desk e.frame c.now c.request) c.kept

-- the response to a frame on a desk: the refusal of a frame that makes no request; the reply at the marked place of the
-- history; or that memory ran out, before the call or after it. A frame that makes no request asks for no moment
pub data IsAnswer (start : State) (desk : ℕ) (history : List Entry) (e : Exchange) : Type 0 where
  by_refusal : (refused : Refusal) → request_of e.frame ≡ Err refused → e.now ≡ None → e.point ≡ None
      → e.bytes ≡ refusal_text refused → IsAnswer start desk history e
  by_reply : (c : IsCalled start desk history e)
      → e.bytes ≡ response c.point.at c.point.stored (reply_of start desk history e c) → IsAnswer start desk history e
  by_no_memory : e.point ≡ None → e.bytes ≡ no_memory_before → IsAnswer start desk history e
  by_late_no_memory : (c : IsCalled start desk history e)
      → e.bytes ≡ no_memory_at c.point.at c.point.stored → IsAnswer start desk history e

-- the least place of a later call
abbrev pub floor_after : ℕ → Option Point → ℕ
floor_after floor None = floor
floor_after floor (Some point) = if point.stored then point.at + 1 else point.at

-- the place isn't below the floor
abbrev pub IsAbove : ℕ → Option Point → Type 0
IsAbove floor None = ⊤
IsAbove floor (Some point) = floor ≤ point.at

-- along the exchanges no place is below an earlier one, and each place after a stored call is above that call's
abbrev pub AreInOrder : ℕ → List Exchange → Type 0
AreInOrder floor [] = ⊤
AreInOrder floor (first ∷ others) = IsAbove floor first.point × AreInOrder (floor_after floor first.point) others

-- the least place of a call after all of these
abbrev pub floor_of : ℕ → List Exchange → ℕ
floor_of floor [] = floor
floor_of floor (first ∷ others) = floor_of (floor_after floor first.point) others

-- a call at that point leaves the least place of a later one, and isn't below the one that was asked for if its desk
-- waits
abbrev pub Raises : Bool → ℕ → ℕ → Option Point → Type 0
Raises waits least next point = (IsTrue waits → IsAbove least point) × (next ≡ floor_after least point)

-- so do these calls, one after the other
abbrev pub RaisesAlong : Bool → ℕ → ℕ → List Exchange → Type 0
RaisesAlong waits least next es = (IsTrue waits → AreInOrder least es) × (next ≡ floor_of least es)

-- the entry that a stored call became
abbrev pub entry_at : List Entry → Option Point → List Entry
entry_at history None = []
entry_at history (Some point) = if point.stored then option_to_list (slice_get history point.at) else []

-- the entries that the stored calls became, in the order of the frames
abbrev pub stored_entries : List Entry → List Exchange → List Entry
stored_entries history es = flat_map (λ (e : Exchange). entry_at history e.point) es

-- each exchange is answered in one history, which goes on from what the desk had seen; the desk's own new entries
-- are the stored calls, each once, in the order of the frames. If it has its manager for itself, these are all the
-- new entries
pub record AreAnswered (old new : DeskView) (es : List Exchange) : Type 0 where
  pub grows : Extends old.seen new.seen
  pub answers : AllByRecursion (IsAnswer (start_of old) old.number new.seen) es
  pub in_order : AreInOrder (length old.seen) es
  pub floor : floor_of (length old.seen) es ≤ length new.seen
  pub own : entries_of old.number new.seen ≡ entries_of old.number old.seen ++ stored_entries new.seen es
  pub alone : old.sharing.desks ≡ 1 → new.seen ≡ old.seen ++ stored_entries new.seen es

-- what a desk showed of the call of an exchange, between what it had seen before and after it
pub record ShowsIn (old new : DeskView) (e : Exchange) (shown : Shown) : Type 0 where
  pub request : Request
  pub asks : request_of e.frame ≡ Ok request
  pub now : ℕ
  pub asked : e.now ≡ Some now
  pub placed : e.point ≡ Some (record { at = shown.at; stored = shown.stored })
  pub shows : Shows old new (call_of old.number e.frame now request) shown

-- one exchange, between what the desk had seen before and after it
pub data Answered (old new : DeskView) (e : Exchange) : Type 0 where
  refused_at_once : (refused : Refusal) → request_of e.frame ≡ Err refused → e.now ≡ None → e.point ≡ None
      → e.bytes ≡ refusal_text refused → new.seen ≡ old.seen → Answered old new e
  replied : (shown : Shown) → ShowsIn old new e shown
      → e.bytes ≡ response shown.at shown.stored shown.reply → Answered old new e
  wanted : SeesOthers old new.seen → e.point ≡ None → e.bytes ≡ no_memory_before → Answered old new e
  ran_out_late : (shown : Shown) → ShowsIn old new e shown
      → e.bytes ≡ no_memory_at shown.at shown.stored → Answered old new e

-- the frames, and the responses one after the other
abbrev pub frames_of : List Exchange → List Frame
frames_of [] = []
frames_of (first ∷ others) = first.frame ∷ frames_of others

abbrev pub bytes_of : List Exchange → List ℕ
bytes_of es = flat_map (λ (e : Exchange). e.bytes) es

-- the moments that the clock was asked for, in the order of the frames
abbrev pub moments_of : List Exchange → List ℕ
moments_of es = flat_map (λ (e : Exchange). option_to_list e.now) es
