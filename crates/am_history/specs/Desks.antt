-- What a desk is, on which a connection's calls are made, and what it shows of each call.
use Rattle.std.specs.Prelude.{◌≡◌, ℕ, Bool, true, false, List, [], ◌∷◌, ◌++◌, length, Option, Result, Ok, Err}
use Rattle.am_types.specs.declared.device.Device.{Device}
use Rattle.am_types.specs.declared.history.Entry.{Entry}
use Rattle.am_types.specs.declared.history.Shown.{Shown}
use Rattle.am_keeper.specs.declared.rows.Rows.{Rows}
use Rattle.am_history.specs.State.{State, opening}
use Rattle.am_history.specs.Opening.{opening_with}
use Rattle.am_history.specs.Steps.{Call}
use Rattle.am_history.specs.History.{replay, is_stored, reply_after, IsEntryOf, entries_of, Extends}

-- where a manager comes from: the device that it was opened with, the rows that were kept, and their place in a store
pub record Origin : Type 0 where
  pub device : Device
  pub rows : Rows
  pub place : Option (List ℕ)

-- the state, or another if its rows were refused
abbrev pub state_or : State → Result State (List ℕ) → State
state_or other (Ok state) = state
state_or other (Err name) = other

-- the state in which a manager of that origin began; no manager begins with rows that are refused
abbrev pub opening_of : Origin → State
opening_of origin = state_or (opening origin.device) (opening_with origin.device origin.rows)

-- which desks share a manager: the numbers that tell it from other managers, how many desks there are, and the
-- history that it had when they were made
pub record Sharing : Type 0 where
  pub id : List ℕ
  pub desks : ℕ
  pub handed : List Entry

-- a desk as clauses see it: where its manager comes from, the number that its stored calls carry, which desks share
-- the manager, and the entries of the history that it has seen
pub record DeskView : Type 0 where
  pub origin : Origin
  pub number : ℕ
  pub sharing : Sharing
  pub seen : List Entry

-- the state in which the desk's manager began
abbrev pub start_of : DeskView → State
start_of desk = opening_of desk.origin

-- it is the same desk, which may have seen more
pub record IsSameDesk (old new : DeskView) : Type 0 where
  pub origin : new.origin ≡ old.origin
  pub number : new.number ≡ old.number
  pub sharing : new.sharing ≡ old.sharing

-- the desk may see more, but no new entry of its own, and nothing new if it has the manager for itself
pub record SeesOthers (desk : DeskView) (history : List Entry) : Type 0 where
  pub grows : Extends desk.seen history
  pub others : entries_of desk.number history ≡ entries_of desk.number desk.seen
  pub alone : desk.sharing.desks ≡ 1 → history ≡ desk.seen

-- a stored call adds its entry to the history, another call adds none
abbrev pub Follows : List Entry → List Entry → Bool → (Entry → Type 0) → Type 0
Follows before after false IsItsEntry = after ≡ before
Follows before after true IsItsEntry = (entry : Entry) × IsItsEntry entry × (after ≡ before ++ entry ∷ [])

-- a call was made at the end of the history `before`, and what is shown of it is the reply at that place; `kept` is
-- false if the call is stored and its row couldn't be kept
pub record ShowsAt (start : State) (before after : List Entry) (call : Call) (shown : Shown) : Type 0 where
  pub kept : Bool
  pub at : shown.at ≡ length before
  pub stored : shown.stored ≡ is_stored (replay start before) before call
  pub reply : shown.reply ≡ reply_after start before call kept
  pub follows : Follows before after shown.stored (IsEntryOf (replay start before) call kept)

-- what the desk shows of a call, which is made after others' calls that it may see
abbrev pub Shows : DeskView → DeskView → Call → Shown → Type 0
Shows old new call shown =
    (before : List Entry) × SeesOthers old before × ShowsAt (start_of old) before new.seen call shown
