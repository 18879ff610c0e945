-- Tasks and the back stack.
use Rattle.std.specs.Prelude.{ℕ, Bool, not, ◌||◌, ◌==◌, List, [], ◌∷◌, map, filter, if◌then◌else◌, Option, Some, None, option_and_then}
use Rattle.std.specs.List.{list_any, find, last_or}
use Rattle.am_types.specs.declared.intent.Intent.{Intent}
use Rattle.am_types.specs.declared.intent.Component.{Component}
use Rattle.am_types.specs.declared.task.InstanceView.{InstanceView}
use Rattle.am_types.specs.declared.task.TaskView.{TaskView}
use Rattle.am_types.specs.declared.task.TaskFault.{TaskFault}
use Rattle.am_types.specs.declared.task.TaskFault.TheVariants.{NoSource, NotYours}
use Rattle.std.specs.Prelude.{Result, Ok, Err}
use Rattle.am_model.specs.Filters.{is_empty}
use Rattle.am_model.specs.Gates.{is_privileged}

-- an activity instance: its number, its component, the uid of its package, and the intent that it was given last
pub record Instance : Type 0 where
  pub number : ℕ
  pub component : Component
  pub owner : ℕ
  pub intent : Intent

-- a task: its number, the affinity of the component for which it was made, whether it is for a single instance, and
-- its instances from the root to the top
pub record Task : Type 0 where
  pub number : ℕ
  pub affinity : List ℕ
  pub single : Bool
  pub instances : List Instance

-- all tasks from front to back, and the next numbers
pub record Tasks : Type 0 where
  pub tasks : List Task
  pub next_task : ℕ
  pub next_instance : ℕ

-- no task yet
abbrev pub no_tasks : Tasks
no_tasks = record { tasks = []; next_task = 1; next_instance = 1 }

-- the instance has that number
abbrev pub is_number : ℕ → Instance → Bool
is_number number instance = instance.number == number

-- the instance of that number in a task
abbrev pub instance_in : ℕ → Task → Option Instance
instance_in number task = find (is_number number) task.instances

-- the task that has the instance, if one has it
abbrev pub task_of : List Task → ℕ → Option Task
task_of tasks number = find (λ (task : Task). list_any (is_number number) task.instances) tasks

-- the instance of that number, if there is one
abbrev pub instance_of : List Task → ℕ → Option Instance
instance_of tasks number = option_and_then (instance_in number) (task_of tasks number)

-- the uid of the instance's package, if there is such an instance
abbrev pub owner_in : Option Instance → Option ℕ
owner_in None = None
owner_in (Some instance) = Some instance.owner

-- the uid that owns the instance of that number, if there is such an instance
abbrev pub owner : Tasks → ℕ → Option ℕ
owner all number = owner_in (instance_of all.tasks number)

-- the task with only those instances that pass the test
abbrev pub keeping : (Instance → Bool) → Task → Task
keeping keeps task = record task { instances = filter keeps task.instances }

-- the tasks with only those instances that pass the test; a task without one is gone
abbrev pub tasks_keeping : (Instance → Bool) → List Task → List Task
tasks_keeping keeps tasks = filter (λ (task : Task). not (is_empty task.instances)) (map (keeping keeps) tasks)

-- the tasks without an instance
abbrev pub without_instance : Tasks → ℕ → Tasks
without_instance all number = record all {
  tasks = tasks_keeping (λ (i : Instance). not (i.number == number)) all.tasks;
}

-- the uid may end what another uid owns only if it is the system or the root
abbrev pub may_end : ℕ → ℕ → Bool
may_end uid owner = is_privileged uid || (uid == owner)

-- the tasks after an instance was ended by a uid, or why not
abbrev pub ended : Tasks → ℕ → ℕ → Option ℕ → Result Tasks TaskFault
ended all number uid None = Err NoSource
ended all number uid (Some owned) = if may_end uid owned then Ok (without_instance all number) else Err NotYours

-- an instance is ended by a uid
unfoldable pub finish : Tasks → ℕ → ℕ → Result Tasks TaskFault
finish all number uid = ended all number uid (owner all number)

-- the top of a task
abbrev pub top_of : Task → Option Instance
top_of task = last_or None task.instances

-- the instance that the user sees: the top of the front task
abbrev pub seen : List Task → Option Instance
seen [] = None
seen (front ∷ others) = top_of front

-- the user goes back: the instance that was seen, if there was one, is ended
abbrev pub back_from : Tasks → Option Instance → Option ℕ × Tasks
back_from all None = (None, all)
back_from all (Some instance) = (Some instance.number, without_instance all instance.number)

-- the user goes back
abbrev pub back : Tasks → Option ℕ × Tasks
back all = back_from all (seen all.tasks)

-- an instance as its owner sees it
abbrev pub view_of : Instance → InstanceView
view_of i = record { instance = i.number; component = i.component; intent = i.intent }

-- the uid sees the instance: its own, or each if it is the system or the root
abbrev pub may_see : ℕ → Instance → Bool
may_see uid instance = is_privileged uid || (instance.owner == uid)

-- a task as the uid sees it
abbrev pub task_view : Task → TaskView
task_view task = record { task = task.number; instances = map view_of task.instances }

-- the tasks, from front to back, with the instances that the uid sees; a task without one is left out
abbrev pub views : Tasks → ℕ → List TaskView
views all uid = map task_view (tasks_keeping (may_see uid) all.tasks)

-- the tasks without the instances of a uid
abbrev pub forget_uid : Tasks → ℕ → Tasks
forget_uid all uid = record all { tasks = tasks_keeping (λ (i : Instance). not (i.owner == uid)) all.tasks }
