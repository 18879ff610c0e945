-- What an attach finds in the image of a file, that is, in what the file and its log held.
use Rattle.std.specs.Prelude.{◌≡◌, ◌⊎◌, ◌≤◌, Some}
use Rattle.sqlite_disk.specs.declared.Disk.{Ghosts}
use Rattle.sqlite_wal.specs.Recovery.{Image}
use Rattle.sqlite_catalog.specs.Listing.{IsSound}
use Rattle.sqlite.specs.Schema.{Schema}
use Rattle.sqlite.specs.Tree.{Trees}
use Rattle.sqlite.specs.Effect.{Database}
use Rattle.sqlite.specs.Files.{HoldsDatabase, AreFoundIn, IsNothing, IsEmpty, IsFullLeft, faults_left}
use Rattle.sqlite.specs.declared.file.Leftover.{Leftover}
use Rattle.am_keeper.specs.declared.rows.Rows.{Rows}
use Rattle.am_keeper.specs.Rows.{no_rows}
use Rattle.am_keeper_sql.specs.Table.{kept_schema, no_schema}
use Rattle.am_keeper_sql.specs.Told.{told_in}

-- the database has the one table, whose rows are read as these, or it has nothing yet and there are none
abbrev pub HasRows : Database → Rows → Type 0
HasRows db rows = ((db.schema ≡ kept_schema) × (told_in db.trees ≡ Some rows)) ⊎
    ((db.schema ≡ no_schema) × (rows ≡ no_rows))

-- the image holds a database with these rows
pub record HoldsKept (image : Image) (rows : Rows) : Type 0 where
  pub trees : Trees
  pub schema : Schema
  pub held : HoldsDatabase image trees
  pub sound : IsSound schema trees
  pub has : HasRows (record { schema = schema; trees = trees }) rows

-- the file is new: nothing is there yet, and no database recovers from it
pub record IsNew (image : Image) : Type 0 where
  pub nothing : IsNothing image
  pub empty : (trees : Trees) → AreFoundIn image trees → IsEmpty trees

-- these are the rows of the image's table, or there are none and the file is new
abbrev pub HoldsRows : Image → Rows → Type 0
HoldsRows image rows = HoldsKept image rows ⊎ (IsNew image × (rows ≡ no_rows))

-- these are the rows of the database that was found: the one that the image holds, if it holds one
pub record FindsRows (image : Image) (rows : Rows) : Type 0 where
  pub trees : Trees
  pub schema : Schema
  pub found : AreFoundIn image trees
  pub held : (db : Trees) → HoldsDatabase image db → trees ≡ db
  pub sound : IsSound schema trees
  pub has : HasRows (record { schema = schema; trees = trees }) rows

-- why files that were opened are refused: their disk had a fault, a limit of theirs was met, or what they held isn't
-- a keeper's rows
abbrev pub IsRefused : {D : Type 0} {g : Ghosts D} → Image → Leftover D g → Type 0
IsRefused image left = (1 ≤ faults_left left) ⊎ (IsFullLeft left ⊎ ((rows : Rows) → ¬ HoldsRows image rows))
