-- What is put when a selection is read one row at a time.
use Rattle.std.specs.Prelude.{◌≡◌, Bool, true, false, Option, Some, None, Result, Ok, Err, ⊤}
use Rattle.sqlite.specs.Store.{Ghosts}
use Rattle.sqlite.specs.Order.{Row}
use Rattle.sqlite.specs.Held.{Held}
use Rattle.sqlite.specs.Given.{Advances}
use Rattle.am_keeper.specs.declared.failure.KeepFail.{KeepFail}
use Rattle.am_keeper.specs.declared.failure.KeepFail.TheVariants.{Failed, NoMemory}
use Rattle.am_keeper.specs.declared.rows.Row.{Row as Kept}
use Rattle.am_keeper.specs.declared.rows.Rows.{Rows}
use Rattle.am_keeper.specs.Rows.{with_row}
use Rattle.am_keeper_sql.specs.Told.{row_said}

-- what is there is read, and `Failed` comes only if there is nothing to be read; memory may run out
abbrev pub IsRead : {X : Type 0} → Option X → Result X KeepFail → Type 0
IsRead wanted (Ok x) = wanted ≡ Some x
IsRead wanted (Err Failed) = wanted ≡ None
IsRead wanted (Err NoMemory) = ⊤

-- one more row is given, and the kept row that it describes was put
pub record PutsNext {S : Type 0} (g : Ghosts S) (old new : Held S) (was now : Rows) : Type 0 where
  pub values : Row
  pub row : Kept
  pub given : Advances g old new (Some values)
  pub says : row_said values ≡ Some row
  pub put : now ≡ with_row was row

-- the next row was put, or there was none
abbrev pub Moves : {S : Type 0} → Ghosts S → Held S → Held S → Rows → Rows → Bool → Type 0
Moves g old new was now true = PutsNext g old new was now
Moves g old new was now false = Advances g old new None × (now ≡ was)
