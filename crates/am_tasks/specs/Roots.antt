-- Where a component is in its tasks.
use Rattle.std.specs.Prelude.{◌≡◌, true, false, All, drop}
use Rattle.std.specs.List.{list_any}
use Rattle.am_types.specs.declared.intent.Component.{Component}
use Rattle.am_types.specs.declared.task.StartCall.{StartCall}
use Rattle.am_types.specs.declared.manifest.Mode.TheVariants.{SingleInstancePerTask}
use Rattle.am_model.specs.Intents.{is_same_component}
use Rattle.am_model.specs.Tasks.{Task, Tasks}
use Rattle.am_model.specs.Placement.{is_of, is_mode}

-- each instance of the component is the root of its task: none is above the root
abbrev pub AreRoots : Component → Tasks → Type 0
AreRoots component all = All (λ (task : Task). list_any (is_of component) (drop 1 task.instances) ≡ false) all.tasks

-- if each instance of the component was the root of its task, each is afterwards
abbrev pub KeepsRoots : Component → Tasks → Tasks → Type 0
KeepsRoots component old new = AreRoots component old → AreRoots component new

-- a start of the component has the mode singleInstancePerTask; one of another component may have any
abbrev pub IsRootStart : Component → StartCall → Type 0
IsRootStart component start = is_same_component component start.target ≡ true → is_mode SingleInstancePerTask start.mode
    ≡ true
