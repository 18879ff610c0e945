-- What a call on a connection keeps, and why it may fail.
use Rattle.std.specs.Prelude.{◌≡◌, ◌≢◌, ◌⊎◌, ◌≤◌, IsTrue, [], Some, None, Result, Err}
use Rattle.sqlite_disk.specs.Disk.{MoreFaults}
use Rattle.sqlite.specs.Store.{Ghosts}
use Rattle.sqlite.specs.Order.{Row}
use Rattle.sqlite.specs.Held.{Held, state}
use Rattle.sqlite.specs.State.{State, HasCleanDisk, Opens, IsLive, IsUnchanged, Executes}
use Rattle.sqlite.specs.Given.{Advances, FailsToAdvance}
use Rattle.sqlite.specs.declared.error.Error.{Error}
use Rattle.sqlite.specs.declared.error.Error.TheVariants.{SqliteFailure}
use Rattle.sqlite.specs.declared.error.ErrorCode.TheVariants.{OutOfMemory}
use Rattle.am_keeper.specs.declared.failure.KeepFail.{KeepFail}
use Rattle.am_keeper.specs.declared.failure.KeepFail.TheVariants.{Failed}
use Rattle.am_keeper.specs.declared.rows.Row.{Row as Kept}
use Rattle.am_keeper.specs.declared.rows.Rows.{Rows}
use Rattle.am_keeper_sql.specs.Table.{kept_schema, no_schema, upsert_text}
use Rattle.am_keeper_sql.specs.Told.{row_said, told_in}
use Rattle.am_keeper_sql.specs.Honest.{HasRisingRows}
use Rattle.am_keeper_sql.specs.Image.{HasRows}

-- no fault is forgotten, and only a fault shuts the connection
pub record Lasts (old new : State) : Type 0 where
  pub clean : HasCleanDisk new → HasCleanDisk old
  pub counts : old.faults ≤ new.faults
  pub limit : new.step_limit ≡ old.step_limit
  pub closes : HasCleanDisk new → IsTrue old.is_open → IsTrue new.is_open ⊎ MoreFaults old.faults new.faults

-- a statement failed because memory ran out, or because the disk had a fault
abbrev pub FailsOnly : State → State → Error → Type 0
FailsOnly old new e = (e ≡ SqliteFailure OutOfMemory) ⊎ MoreFaults old.faults new.faults

-- a connection that was just opened, and whose steps have no limit
pub record IsReady (s : State) : Type 0 where
  pub opens : Opens s
  pub live : IsLive s
  pub unlimited : s.step_limit ≡ None
  pub rising : s.now.schema ≡ kept_schema → HasRisingRows s.now.trees

-- no next row was given, or one that isn't a kept row
abbrev pub FailsToMove : {S : Type 0} → Ghosts S → Held S → Held S → Type 0
FailsToMove g old new =
    ((e : Error) × (e ≢ SqliteFailure OutOfMemory) × FailsToAdvance g old new e)
    ⊎ ((values : Row) × Advances g old new (Some values) × IsUnchanged (state g old) (state g new)
    × (row_said values ≡ None))

-- the disk had a fault, or a row of the table isn't a kept row
abbrev pub FailsToTell : State → State → Type 0
FailsToTell old new = MoreFaults old.faults new.faults ⊎ (told_in old.now.trees ≡ None)

-- the database didn't execute the statement that puts the row, for another reason than memory
abbrev pub FailsToPut : State → State → Kept → Type 0
FailsToPut old new row =
    (values : Row) × (row_said values ≡ Some row) × (e : Error) × (e ≢ SqliteFailure OutOfMemory)
    × Executes upsert_text values old new (Err e)

-- a put that fails fails for that reason
abbrev pub FailsToPutOnly : {X : Type 0} → State → State → Kept → Result X KeepFail → Type 0
FailsToPutOnly old new row r = HasCleanDisk new → r ≡ Err Failed → FailsToPut old new row

-- the table was there and nothing changed, or nothing was there and the table was made, without a row
abbrev pub Begins : State → State → Type 0
Begins old new = ((old.now.schema ≡ kept_schema) × (new.now ≡ old.now)) ⊎
    ((old.now.schema ≡ no_schema) × (new.now.trees 0 ≡ []))

-- the disk had a fault, or the database doesn't hold a keeper's rows
abbrev pub FailsToBegin : State → State → Type 0
FailsToBegin old new = MoreFaults old.faults new.faults ⊎ ((rows : Rows) → ¬ HasRows old.now rows)
