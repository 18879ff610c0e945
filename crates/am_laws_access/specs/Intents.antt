-- What one entry gave to activity instances.
use Rattle.std.specs.Prelude.{◌≡◌, true, List, Some}
use Rattle.std.specs.List.{Contains}
use Rattle.am_types.specs.declared.history.Entry.{Entry}
use Rattle.am_model.specs.Tasks.{Instance, Task}
use Rattle.am_history.specs.State.{State}
use Rattle.am_laws.specs.Access.{Deed, deed_of, IsStarted}

-- the instance, with its intent, is in one of these tasks
pub record IsAmong (tasks : List Task) (i : Instance) : Type 0 where
  pub task : Task
  pub one : Contains tasks task
  pub instance : Contains task.instances i

-- the entry did something for which this holds in that state
pub record HasDone (state : State) (entry : Entry) (P : State → Deed → Type 0) : Type 0 where
  pub kept : entry.kept ≡ true
  pub deed : Deed
  pub did : deed_of state entry.uid entry.request ≡ Some deed
  pub holds : P state deed

-- the entry started the instance's component, in the package that owns it, by the intent that the instance has, and the
-- gate admitted that in this state
abbrev pub IsGivenBy : State → Entry → Instance → Type 0
IsGivenBy state entry i = HasDone state entry (IsStarted i.component i.owner i.intent)
