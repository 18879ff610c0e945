-- The rows that a session begins with, and what it leaves in the store.
use Rattle.std.specs.Prelude.{◌≡◌, ◌≢◌, ℕ, ◌≤◌, List, count_by, Option, Some, None, Ok, Err, IsTrue, ⊤}
use Rattle.am_outside.specs.Counts.{HasRisen}
use Rattle.am_types.specs.declared.device.Device.{Device}
use Rattle.am_types.specs.declared.history.Entry.{Entry}
use Rattle.am_keeper.specs.declared.failure.KeepFail.{KeepFail}
use Rattle.am_keeper.specs.declared.failure.KeepFail.TheVariants as keeps
use Rattle.am_keeper.specs.declared.rows.Rows.{Rows}
use Rattle.am_keeper.specs.Rows.{IsInOrder, no_rows}
use Rattle.am_keeper.specs.Keeping.{raised_by}
use Rattle.am_history.specs.Opening.{opening_with}
use Rattle.am_history.specs.Desks.{Origin, opening_of}
use Rattle.am_laws_kept.specs.Found.{rows_after}
use Rattle.am_machine.specs.Managed.{is_unkept}
use Rattle.am_console.specs.declared.setback.Setback.TheVariants as setbacks
use Rattle.am_shell.specs.declared.undone.Undone.{Undone}
use Rattle.am_shell.specs.declared.undone.Undone.TheVariants as undone
use Rattle.am_shell.specs.Lines.{rows_line}
use Rattle.am_shell.specs.World.{StoreView}

-- these rows were kept at the place: those that the store tells there, if it tells its rows; none without a place
abbrev pub AreKept : StoreView → Option (List ℕ) → Rows → Type 0
AreKept store None rows = rows ≡ no_rows
AreKept store (Some path) rows = IsTrue store.tells → rows ≡ store.rows path

-- a manager with this origin begins with the device and the rows that were kept at the place, and its keeper is at the
-- place
pub record IsOrigin (origin : Origin) (device : Device) (place : Option (List ℕ)) (store : StoreView) : Type 0 where
  pub of_device : origin.device ≡ device
  pub kept : AreKept store place origin.rows
  pub in_order : IsInOrder origin.rows
  pub opens : opening_with device origin.rows ≡ Ok (opening_of origin)
  pub at_place : origin.place ≡ place

-- the line names a package whose row, among those kept at the place, is refused
pub record RefusesRows (device : Device) (place : Option (List ℕ)) (store : StoreView) (line : List ℕ) : Type 0 where
  pub rows : Rows
  pub kept : AreKept store place rows
  pub name : List ℕ
  pub refused : opening_with device rows ≡ Err name
  pub says : line ≡ rows_line name

-- no row of the store changed, and no keeper came back to it
pub record IsUnchanged (old new : StoreView) : Type 0 where
  pub tells : new.tells ≡ old.tells
  pub rows : IsTrue old.tells → (at : List ℕ) → new.rows at ≡ old.rows at
  pub faults : new.faults ≡ old.faults

-- what a manager with this origin leaves in the store after this history, if its rows are at the place: there are those
-- that the history has kept, and at other places those of before. Each entry whose row wasn't kept stands for a fault
pub record Leaves
    (origin : Origin) (place : Option (List ℕ)) (history : List Entry) (old new : StoreView) : Type 0 where
  pub tells : new.tells ≡ old.tells
  pub others : IsTrue old.tells → (at : List ℕ) → place ≢ Some at → new.rows at ≡ old.rows at
  pub kept : IsTrue old.tells → (at : List ℕ) → place ≡ Some at
      → new.rows at ≡ rows_after (opening_of origin) origin.rows history
  pub unkept : raised_by (count_by is_unkept history) old.faults ≤ new.faults

-- what the failure of a store that attached no rows makes of a run
abbrev pub unattached_of : KeepFail → Undone
unattached_of keeps.Failed = undone.StoreFault
unattached_of keeps.NoMemory = undone.Setback setbacks.NoMemory

-- why no manager of the device began with the rows that were kept at the place: the store, a row, or memory ran out
abbrev pub FailsToOpenRows : Undone → Device → Option (List ℕ) → StoreView → StoreView → Type 0
FailsToOpenRows undone.StoreFault device place old new = HasRisen old.failed new.failed
FailsToOpenRows (undone.RowsRefused line) device place old new = RefusesRows device place old line
FailsToOpenRows (undone.Setback setbacks.NoMemory) device place old new = ⊤
FailsToOpenRows _ device place old new = ⊥
