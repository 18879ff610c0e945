-- A history that is replayed, and what a call at its end shows.
use Rattle.std.specs.Prelude.{◌≡◌, ℕ, true, List, [], ◌∷◌, ◌++◌, length, Option, Some, None}
use Rattle.am_types.specs.declared.history.Entry.{Entry}
use Rattle.am_types.specs.declared.history.Shown.{Shown}
use Rattle.am_history.specs.State.{State}
use Rattle.am_history.specs.Steps as steps
use Rattle.am_history.specs.History.{replay, is_stored, reply_after, IsEntryOf, MayBeNext}
use Rattle.am_history.specs.Desks.{Follows, Origin, opening_of}
use Rattle.am_audit_history.specs.declared.replayed.Call.{Call}

-- a history that is replayed: the state with which it begins, and its entries so far
pub record Replay : Type 0 where
  pub start : State
  pub history : List Entry

-- the replay of entries from this origin
abbrev pub replay_from : Origin → List Entry → Replay
replay_from origin history = record { start = opening_of origin; history = history }

-- the state after the entries so far
abbrev pub state_of : Replay → State
state_of r = replay r.start r.history

-- the call as code holds it
abbrev pub call_held : Call → steps.Call
call_held call = record {
  desk = call.desk;
  key = call.key.now;
  now = call.now;
  weight = call.weight;
  request =
      call.request;
}

-- an entry as a call with a key
abbrev pub call_with : List ℕ → Entry → steps.Call
call_with key entry = record {
  desk = entry.desk;
  key = key;
  now = entry.now;
  weight = entry.weight;
  request =
      entry.request;
}

-- a call was made at the end of the history, and this is shown of it; what is stored is kept
pub record ShowsKept (before : Replay) (call : steps.Call) (after : Replay) (shown : Shown) : Type 0 where
  pub start : after.start ≡ before.start
  pub at : shown.at ≡ length before.history
  pub stored : shown.stored ≡ is_stored (state_of before) before.history call
  pub reply : shown.reply ≡ reply_after before.start before.history call true
  pub follows : Follows before.history after.history shown.stored (IsEntryOf (state_of before) call true)

-- the history went on with this entry, which may be next
pub record GoesOnWith (before : Replay) (entry : Entry) (after : Replay) : Type 0 where
  pub start : after.start ≡ before.start
  pub history : after.history ≡ before.history ++ entry ∷ []
  pub next : MayBeNext (state_of before) before.history entry

-- the history went on with the entry, or the entry may not be next
abbrev pub Advances : Replay → Entry → Option Replay → Type 0
Advances before entry (Some after) = GoesOnWith before entry after
Advances before entry None = MayBeNext (state_of before) before.history entry → ⊥
