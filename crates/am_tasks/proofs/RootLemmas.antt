-- A component of the mode singleInstancePerTask stays at the roots, by the laws of placements.
use Rattle.std.proofs.Common.{◌≡◌, Bool, true, false, List, [], ◌∷◌, drop, Ok, refl, sym, ap, ◌∙◌}
use Rattle.std.specs.List.{list_any, All}
use Rattle.std.proofs.lemmas.List.Elements.{All-nil, All-cons, All-head, All-tail}
use Rattle.am_types.specs.declared.intent.Component.{Component}
use Rattle.am_types.specs.declared.manifest.Mode.{Mode}
use Rattle.am_types.specs.declared.manifest.Mode.TheVariants.{Standard, SingleTop, SingleTask, SingleInstance, SingleInstancePerTask}
use Rattle.am_types.specs.declared.task.Landed.{Landed}
use Rattle.am_types.specs.declared.task.StartCall.{StartCall}
use Rattle.am_model.specs.Intents.{is_same_component}
use Rattle.am_model.specs.Tasks.{Instance, Task, Tasks, tasks_keeping}
use Rattle.am_model.specs.Placement.{is_of, is_mode, place}
use Rattle.am_model.proofs.RootLaws as law
use Rattle.am_model.proofs.RootLaws.{place_keeps_roots, place_at_root, keeping_keeps_roots}
use Rattle.am_tasks.specs.Roots.{AreRoots, KeepsRoots, IsRootStart}

-- what is above the root is all but the first
above_root : (instances : List Instance) → law.above_root instances ≡ drop 1 instances
above_root [] = refl
above_root (root ∷ others) = refl

-- no instance of the component is above the root of the task
abbrev IsRootOf : Component → Task → Type 0
IsRootOf component task = list_any (is_of component) (drop 1 task.instances) ≡ false

-- as the laws have it
lawful : (component : Component) (tasks : List Task) → All (IsRootOf component) tasks → law.AreRoots component tasks
lawful component [] roots = tt
lawful component (task ∷ others) roots = (
  ap (list_any (is_of component)) (above_root task.instances) ∙ All-head (IsRootOf component) task others roots,
  lawful component others (All-tail (IsRootOf component) task others roots),
)

-- and back
from_law : (component : Component) (tasks : List Task) → law.AreRoots component tasks → All (IsRootOf component) tasks
from_law component [] roots = All-nil (IsRootOf component)
from_law component (task ∷ others) roots =
    All-cons (IsRootOf component) task others (ap (list_any (is_of component)) (sym (above_root task.instances))
    ∙ roots.0) (from_law component others roots.1)

-- what ends instances keeps the roots
pub end_keeps : (component : Component) (keeps : Instance → Bool) (all : Tasks)
    → KeepsRoots component all (record all { tasks = tasks_keeping keeps all.tasks })
end_keeps component keeps all roots = from_law component (tasks_keeping keeps all.tasks)
    (keeping_keeps_roots component keeps all.tasks (lawful component all.tasks roots))

-- the mode that the test tells
per_task : (mode : Mode) → is_mode SingleInstancePerTask mode ≡ true → mode ≡ SingleInstancePerTask
per_task Standard is = absurd cc
per_task SingleTop is = absurd cc
per_task SingleTask is = absurd cc
per_task SingleInstance is = absurd cc
per_task SingleInstancePerTask is = refl

-- so does a start of another component, and one in that mode
pub place_keeps : (component : Component) (all after : Tasks) (start : StartCall) (landed : Landed) → place all start
    ≡ Ok (landed, after) → IsRootStart component start → KeepsRoots component all after
place_keeps component all after start landed done mode roots = by (is_same_component component start.target) refl
  where
    before : law.AreRoots component all.tasks
    before = lawful component all.tasks roots

    by : (b : Bool) → is_same_component component start.target ≡ b → AreRoots component after
    by true same = from_law component after.tasks (place_at_root component all start (landed, after)
        (per_task start.mode (mode same)) before done)
    by false other = from_law component after.tasks (place_keeps_roots component all start (landed, after) other before
        done)
