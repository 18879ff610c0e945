-- What holds for a keeper's database.
use Rattle.std.specs.Prelude.{◌≡◌, false, IsTrue, IsSome, OnOk, OnErr, Result, unwrap_or, ⊤}
use Rattle.sqlite.specs.Store.{Ghosts}
use Rattle.sqlite.specs.Steps.{over_memory}
use Rattle.sqlite.specs.Held.{state}
use Rattle.sqlite.specs.State.{State, HasCleanDisk}
use Rattle.sqlite.specs.Effect.{Database, IsDatabase}
use Rattle.sqlite.specs.Tree.{Trees}
use Rattle.sqlite_trees.specs.View.{IsShaped}
use Rattle.sqlite_trees.specs.declared.store.Shape.TheVariants as shape
use Rattle.am_keeper.specs.declared.failure.KeepFail.{KeepFail}
use Rattle.am_keeper.specs.declared.rows.Row.{Row}
use Rattle.am_keeper.specs.declared.rows.Rows.{Rows}
use Rattle.am_keeper.specs.Rows.{no_rows, with_row}
use Rattle.am_keeper_sql.specs.declared.database.Database.{Database as Connected}
use Rattle.am_keeper_sql.specs.declared.database.Database.TheVariants.{Memory, File}
use Rattle.am_keeper_sql.specs.Table.{kept_schema}
use Rattle.am_keeper_sql.specs.Told.{told_in}

-- the disk has returned what was written, and no fault has shut the connection
pub record IsHonest (s : State) : Type 0 where
  pub clean : HasCleanDisk s
  pub live : IsTrue s.is_open

-- there is no transaction, so what is seen is what was committed
pub record IsSettled (s : State) : Type 0 where
  pub settled : s.now ≡ s.committed
  pub autocommit : s.in_transaction ≡ false

-- the rows of the table have rising rowids
abbrev pub HasRisingRows : Trees → Type 0
HasRisingRows trees = IsShaped shape.Table (trees 0)

-- the database has the table of the kept rows, and nothing else
pub record HoldsTable (db : Database) : Type 0 where
  pub schema : db.schema ≡ kept_schema
  pub sound : IsDatabase db
  pub rising : HasRisingRows db.trees

-- the database is settled, and each row of its table is a kept row
pub record Keeps (s : State) : Type 0 where
  pub settled : IsSettled s
  pub holds : HoldsTable s.now
  pub read : IsSome (told_in s.now.trees)

-- the database that is seen is as before, and settled if it was
pub record StaysSeen (old new : State) : Type 0 where
  pub same : new.now ≡ old.now
  pub settled : IsSettled new

-- what the connection of a keeper shows
abbrev pub state_of : {F : Type 0} → Ghosts F → Connected F → State
state_of g (Memory conn) = state over_memory conn
state_of g (File conn) = state g conn

-- the keeper has no file
abbrev pub IsInMemory : {F : Type 0} → Connected F → Type 0
IsInMemory (Memory conn) = ⊤
IsInMemory (File conn) = ⊥

-- the rows that a keeper tells: those of its table, or none at all if one of them can't be read
abbrev pub told_by : State → Rows
told_by s = unwrap_or (told_in s.now.trees) no_rows

-- a put that succeeds keeps the database, which then tells the row
abbrev pub PutsInto : {X : Type 0} → State → State → Row → Result X KeepFail → Type 0
PutsInto old new row r = IsHonest new → Keeps old → OnOk r (Keeps new × (told_by new ≡ with_row (told_by old) row))

-- a call that fails leaves what is seen as it was
abbrev pub FailsUnseen : {X : Type 0} → State → State → Result X KeepFail → Type 0
FailsUnseen old new r = IsHonest new → IsSettled old → OnErr r (StaysSeen old new)

-- the keeper is in memory, which returns what was written and isn't shut by any fault
pub record IsHonestForGood {F : Type 0} (g : Ghosts F) (database : Connected F) : Type 0 where
  pub in_memory : IsInMemory database
  pub honest : IsHonest (state_of g database)
