-- What a call does to a manager's keeper.
use Rattle.std.specs.Prelude.{◌≡◌, ◌≤◌, ◌↔◌, ◌⊎◌, ◌&&◌, ◌||◌, not, Bool, true, false, List, [], ◌∷◌, ◌++◌, Option, Some, None, if◌then◌else◌}
use Rattle.std.specs.Option.{option_map}
use Rattle.am_types.specs.declared.history.Entry.{Entry}
use Rattle.am_types.specs.declared.request.Request.{Request}
use Rattle.am_types.specs.declared.reply.Reply.{Reply}
use Rattle.am_types.specs.declared.reply.Reply.TheVariants.{Refused}
use Rattle.am_types.specs.declared.rule.Rule.TheVariants.{KeeperFault}
use Rattle.am_outside.specs.Counts.{HasRisen}
use Rattle.am_keeper.specs.declared.keeper.Keeper.{Ghosts}
use Rattle.am_keeper.specs.declared.rows.Row.{Row}
use Rattle.am_keeper.specs.declared.rows.Rows.{Rows}
use Rattle.am_keeper.specs.Rows.{with_row}
use Rattle.am_keeper.specs.Keeping.{TellsAsBefore, raised_by}
use Rattle.am_history.specs.State.{State}
use Rattle.am_history.specs.Steps.{is_refusal, keeps_row}
use Rattle.am_history.specs.Kept.{row_of}
use Rattle.am_machine.specs.Managed.{Managed}

-- the keeper goes on: it tells its rows if it did, at the same place; it was honest if it is, and for good if it was;
-- and its faults don't become fewer
pub record GoesOn {K : Type 0} (g : Ghosts K) (old new : K) : Type 0 where
  pub tells : TellsAsBefore (g.rows old) (g.rows new)
  pub place : g.place new ≡ g.place old
  pub was_honest : g.is_honest new → g.is_honest old
  pub for_good : g.stays_honest new ↔ g.stays_honest old
  pub never_falls : g.faults old ≤ g.faults new

module _ {K : Type 0} where
  -- a keeper that is honest tells the same rows as before
  abbrev pub TellsSame : Ghosts K → K → K → Type 0
  TellsSame g old new = g.is_honest new → g.rows new ≡ g.rows old

-- the rows with the row put, if there is one
abbrev pub with_any : Option Row → Rows → Rows
with_any None rows = rows
with_any (Some row) rows = with_row rows row

-- what a keeper tells after a call that was made in a state and got that reply: its row is put, if it has one and isn't
-- refused
abbrev pub told_after : State → Request → Reply → Option Rows → Option Rows
told_after state request reply told =
    if is_refusal reply then told else option_map (with_any (row_of state request)) told

-- the entry, kept or not
abbrev pub with_kept : Entry → Bool → Entry
with_kept entry kept = record entry { kept = kept }

-- one more call was stored, and its row wasn't kept
abbrev pub AddsUnkept : List Entry → List Entry → Type 0
AddsUnkept before after = (entry : Entry) × (entry.kept ≡ false) × (after ≡ before ++ entry ∷ [])

module _ {K : Type 0} where
  -- a call that is refused, except because of the keeper's fault, leaves the whole keeper as it was
  abbrev pub IsUnasked : Reply → K → K → Type 0
  IsUnasked reply old new = is_refusal reply ≡ true → (reply ≡ Refused KeeperFault → ⊥) → new ≡ old

  -- a call that isn't answered by the keeper's fault leaves the keeper's count of faults as it was
  abbrev pub CountsNone : Ghosts K → Reply → K → K → Type 0
  CountsNone g reply old new = (reply ≡ Refused KeeperFault → ⊥) → g.faults new ≡ g.faults old

  -- for a row that wasn't kept the keeper counted a fault
  abbrev pub CountsFault : Ghosts K → Bool → K → K → Type 0
  CountsFault g kept old new = kept ≡ false → HasRisen (g.faults old) (g.faults new)

  -- one more call was stored, its row wasn't kept, and the keeper counted a fault for it
  abbrev pub IsFault : Ghosts K → Managed K → Managed K → Type 0
  IsFault g old new = HasRisen (g.faults old.keeper) (g.faults new.keeper) × AddsUnkept old.history new.history

-- the reply of a call whose row the keeper didn't keep
abbrev pub is_keeper_fault : Reply → Bool
is_keeper_fault (Refused KeeperFault) = true
is_keeper_fault _ = false

-- the keeper is asked for a call with this answer: the call keeps a row, and is accepted, or refused by the keeper's
-- fault
abbrev pub is_asked : Request → Reply → Bool
is_asked request reply = (not (is_refusal reply) || is_keeper_fault reply) && keeps_row request

module _ {K : Type 0} where
  -- such a call makes exactly one put, and every other call none
  abbrev pub AsksOnce : Ghosts K → Request → Reply → K → K → Type 0
  AsksOnce g request reply old new = g.puts new ≡ (if is_asked request reply then raised_by 1 (g.puts old) else g.puts
      old)

  -- a call that isn't made, because memory ran out, makes one put or none
  abbrev pub AsksAtMostOnce : Ghosts K → K → K → Type 0
  AsksAtMostOnce g old new = (g.puts new ≡ g.puts old) ⊎ (g.puts new ≡ raised_by 1 (g.puts old))

-- a request that was made in a state, and its reply
pub record Replied : Type 0 where
  pub state : State
  pub request : Request
  pub reply : Reply

-- what a call leaves of its keeper: its row is put, if it has one and isn't refused; a refusal leaves the whole keeper,
-- and any reply but the keeper's fault its count of faults; and the keeper is asked at most once
pub record Leaves {K : Type 0} (g : Ghosts K) (call : Replied) (old new : K) : Type 0 where
  pub put : g.is_honest new → g.rows new ≡ told_after call.state call.request call.reply (g.rows old)
  pub unasked : IsUnasked call.reply old new
  pub counts : CountsNone g call.reply old new
  pub asks : AsksOnce g call.request call.reply old new

-- what a call that isn't made, because memory ran out, leaves of it
pub record LeavesUnmade {K : Type 0} (g : Ghosts K) (old new : K) : Type 0 where
  pub rows : TellsSame g old new
  pub uncounted : g.faults new ≡ g.faults old
  pub asks : AsksAtMostOnce g old new
