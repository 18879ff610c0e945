-- In which task a started activity is placed.
use Rattle.std.specs.Prelude.{ℕ, ◌+◌, Bool, true, false, not, ◌&&◌, ◌||◌, ◌==◌, nat_le, List, [], ◌∷◌, ◌++◌, length, map, filter, reverse, if◌then◌else◌, Option, Some, None, Result, Ok, Err}
use Rattle.std.specs.Bool.{then_some}
use Rattle.std.specs.List.{list_any, find, take_while}
use Rattle.am_types.specs.declared.intent.Intent.{Intent}
use Rattle.am_types.specs.declared.intent.Component.{Component}
use Rattle.am_types.specs.declared.manifest.Mode.{Mode}
use Rattle.am_types.specs.declared.manifest.Mode.TheVariants.{Standard, SingleTop, SingleTask, SingleInstance, SingleInstancePerTask}
use Rattle.am_types.specs.declared.task.StartCall.{StartCall}
use Rattle.am_types.specs.declared.task.Landed.{Landed}
use Rattle.am_types.specs.declared.task.Placed.TheVariants as how
use Rattle.am_types.specs.declared.task.PlaceFault.{PlaceFault}
use Rattle.am_types.specs.declared.task.PlaceFault.TheVariants.{NoSource, NotYours, NeedsNewTask, TasksFull, TaskFull}
use Rattle.am_model.specs.Texts.{is_same}
use Rattle.am_model.specs.Filters.{is_empty}
use Rattle.am_model.specs.Intents.{is_same_component, or_other}
use Rattle.am_model.specs.Tasks.{Instance, Task, Tasks, task_of, owner, may_end, top_of}

-- what a start does: a fresh instance in a new task, which may be one for a single instance; a fresh instance on top of
-- what is kept of a task; a new intent to an instance of what is kept of a task; or a task that is only brought to the
-- front
pub data Plan : Type 0 where
  NewTask : Bool → Plan
  FreshOn : Task → List Instance → Plan
  NewIntentTo : Task → List Instance → ℕ → Plan
  FrontOf : Task → Plan

-- the plan where the condition holds
abbrev pub plan_where : Bool → Plan → Option Plan
plan_where test plan = then_some test plan

-- the instance is one of the component
abbrev pub is_of : Component → Instance → Bool
is_of component instance = is_same_component component instance.component

-- the topmost instance of the component in a task
abbrev pub topmost : Component → Task → Option Instance
topmost component task = find (is_of component) (reverse task.instances)

-- the root of a task
abbrev pub root_of : List Instance → Option Instance
root_of [] = None
root_of (root ∷ others) = Some root

-- an instance, if there is one, is one of the component
abbrev pub is_maybe_of : Component → Option Instance → Bool
is_maybe_of component None = false
is_maybe_of component (Some instance) = is_of component instance

-- what stands below the instance of that number
abbrev pub below : ℕ → List Instance → List Instance
below number instances = take_while (λ (i : Instance). not (i.number == number)) instances

-- what is left without the instance of that number
abbrev pub besides : ℕ → List Instance → List Instance
besides number instances = filter (λ (i : Instance). not (i.number == number)) instances

-- the frontmost task that has an instance of the component
abbrev pub task_with : Component → List Task → Option Task
task_with component tasks = find (λ (task : Task). list_any (is_of component) task.instances) tasks

-- the frontmost task whose root is one of the component
abbrev pub task_rooted : Component → List Task → Option Task
task_rooted component tasks = find (λ (task : Task). is_maybe_of component (root_of task.instances)) tasks

-- the frontmost task of that affinity that isn't for a single instance; an empty affinity matches none
abbrev pub task_of_affinity : List ℕ → List Task → Option Task
task_of_affinity affinity tasks =
    find (λ (task : Task). (not task.single && not (is_empty affinity)) && is_same task.affinity affinity) tasks

-- the two modes are the same
abbrev pub is_mode : Mode → Mode → Bool
is_mode Standard Standard = true
is_mode SingleTop SingleTop = true
is_mode SingleTask SingleTask = true
is_mode SingleInstance SingleInstance = true
is_mode SingleInstancePerTask SingleInstancePerTask = true
is_mode _ _ = false

-- the task of the source, if there is a source
abbrev pub source_task : List Task → Option ℕ → Option Task
source_task tasks None = None
source_task tasks (Some number) = task_of tasks number

-- the task is there and is for a single instance
abbrev pub is_single : Option Task → Bool
is_single None = false
is_single (Some task) = task.single

-- a new task is wanted: the start asks for one, the mode does, or the source stands in a task for a single instance
abbrev pub wants_new_task : StartCall → Option Task → Bool
wants_new_task start source = (start.flags.new_task || is_mode SingleTask start.mode) || is_single source

-- the new intent goes to that instance, if there is one, of a task that is kept as it is
abbrev pub renewed_in : Task → Option Instance → Option Plan
renewed_in task None = None
renewed_in task (Some instance) = Some (NewIntentTo task task.instances instance.number)

-- the new intent goes to the topmost instance of the component in a task, if there is such a task
abbrev pub renewed : Component → Option Task → Option Plan
renewed component None = None
renewed component (Some task) = renewed_in task (topmost component task)

-- the plan, or a fresh instance in a new task
abbrev pub or_new_task : Option Plan → Bool → Plan
or_new_task (Some plan) single = plan
or_new_task None single = NewTask single

-- singleInstance: the instance that exists gets the new intent, wherever it stands; else a task for it alone
abbrev pub placed_single : StartCall → List Task → Plan
placed_single start tasks = or_new_task (renewed start.target (task_with start.target tasks)) true

-- the task is cleared down to its root, which gets the new intent
abbrev pub to_root : Task → Option Instance → Option Plan
to_root task None = None
to_root task (Some root) = Some (NewIntentTo task (root ∷ []) root.number)

-- the same, if there is such a task
abbrev pub rooted : Option Task → Option Plan
rooted None = None
rooted (Some task) = to_root task (root_of task.instances)

-- singleInstancePerTask: the root of the task that has the component as its root gets the new intent, and all above it
-- is destroyed; with MULTIPLE_TASK, or without such a task, a new task
abbrev pub placed_per_task : StartCall → List Task → Plan
placed_per_task start tasks =
    if start.flags.multiple_task then NewTask false else or_new_task (rooted (task_rooted start.target tasks)) false

-- several tasks: a new task is wanted with MULTIPLE_TASK, in the modes standard and singleTop
abbrev pub is_multiple : StartCall → Bool → Bool
is_multiple start wanted =
    (wanted && start.flags.multiple_task) && (is_mode Standard start.mode || is_mode SingleTop start.mode)

-- CLEAR_TASK beside NEW_TASK: the task that was found is emptied
abbrev pub clearing_task : StartCall → Bool → Task → Option Plan
clearing_task start wanted task =
    plan_where ((wanted && start.flags.clear_task) && start.flags.new_task) (FreshOn task [])

-- all above the instance is destroyed; a standard activity without SINGLE_TOP is made anew, another gets the new intent
abbrev pub cleared_to : StartCall → Task → Instance → Plan
cleared_to start task instance =
    if is_mode Standard start.mode && not start.flags.single_top
    then FreshOn task (below instance.number task.instances)
    else NewIntentTo task (below instance.number task.instances ++ instance ∷ []) instance.number

-- singleTask or CLEAR_TOP, where the task has an instance of the component
abbrev pub clearing_top : StartCall → Task → Option Instance → Option Plan
clearing_top start task None = None
clearing_top start task (Some instance) =
    plan_where (is_mode SingleTask start.mode || start.flags.clear_top) (cleared_to start task instance)

-- a new task is wanted, and the root of the one that was found is the component: that one is brought to the front
abbrev pub fronting : StartCall → Bool → Task → Option Plan
fronting start wanted task = plan_where (wanted && is_maybe_of start.target (root_of task.instances)) (FrontOf task)

-- REORDER_TO_FRONT without CLEAR_TOP, in the source's task: the instance is moved to the top and gets the new intent
abbrev pub reordering : StartCall → Bool → Task → Option Instance → Option Plan
reordering start wanted task None = None
reordering start wanted task (Some instance) =
    plan_where ((not wanted && start.flags.reorder_to_front) && not start.flags.clear_top)
    (NewIntentTo task (besides instance.number task.instances ++ instance ∷ []) instance.number)

-- singleTop or SINGLE_TOP, where the top is the component: it gets the new intent
abbrev pub on_top : StartCall → Task → Option Instance → Option Plan
on_top start task None = None
on_top start task (Some top) =
    plan_where (is_of start.target top && (is_mode SingleTop start.mode || start.flags.single_top))
    (NewIntentTo task task.instances top.number)

-- the plan, or a fresh instance on top of the task
abbrev pub or_fresh : Option Plan → Task → Plan
or_fresh (Some plan) task = plan
or_fresh None task = FreshOn task task.instances

-- in a task that is there: the first case that applies
abbrev pub placed_in : StartCall → Bool → Task → Plan
placed_in start wanted task =
    or_fresh
    (or_other (clearing_task start wanted task)
    (or_other (clearing_top start task (topmost start.target task))
    (or_other (fronting start wanted task)
    (or_other (reordering start wanted task (topmost start.target task))
    (on_top start task (top_of task))))))
    task

-- in the task, if there is one; else in a new task
abbrev pub placed_in_maybe : StartCall → Bool → Option Task → Plan
placed_in_maybe start wanted None = NewTask false
placed_in_maybe start wanted (Some task) = placed_in start wanted task

-- the other modes: in a new task where several are asked for; else in the task of the component's affinity where a new
-- task is wanted, and in the source's task where it isn't
abbrev pub placed_ordinary : StartCall → List Task → Bool → Option Task → Plan
placed_ordinary start tasks wanted source =
    if is_multiple start wanted then NewTask false
    else placed_in_maybe start wanted (if wanted then task_of_affinity start.affinity tasks else source)

-- what the start does
abbrev pub plan_of : StartCall → List Task → Option Task → Plan
plan_of start tasks source =
    if is_mode SingleInstance start.mode then placed_single start tasks
    else if is_mode SingleInstancePerTask start.mode then placed_per_task start tasks
    else placed_ordinary start tasks (wants_new_task start source) source

-- the fresh instance of a start
abbrev pub fresh : ℕ → StartCall → Instance
fresh number start = record { number = number; component = start.target; owner = start.owner; intent = start.intent }

-- a task with those instances in front of all others, among which it doesn't stand any more
abbrev pub in_front : Task → List Instance → List Task → List Task
in_front task instances tasks =
    record task { instances = instances } ∷ filter (λ (other : Task). not (other.number == task.number)) tasks

-- the instance of that number has the new intent
abbrev pub with_intent : ℕ → Intent → List Instance → List Instance
with_intent number intent instances =
    map (λ (i : Instance). if i.number == number then record i { intent = intent } else i) instances

-- a new task for the start
abbrev pub new_task : ℕ → ℕ → StartCall → Bool → Task
new_task number instance start single =
    record { number = number; affinity = start.affinity; single = single; instances = fresh instance start ∷ [] }

-- the number of an instance, if there is one
abbrev pub number_of : Option Instance → ℕ
number_of None = 0
number_of (Some instance) = instance.number

-- where the start landed, and the tasks after it
abbrev pub carried_out : Tasks → StartCall → Plan → Landed × Tasks
carried_out all start (NewTask single) = (
  record { how = how.Fresh; task = all.next_task; instance = all.next_instance },
  record {
    tasks = new_task all.next_task all.next_instance start single ∷ all.tasks;
    next_task = all.next_task + 1;
    next_instance = all.next_instance + 1;
  },
)
carried_out all start (FreshOn task kept) = (
  record { how = how.Fresh; task = task.number; instance = all.next_instance },
  record all {
    tasks = in_front task (kept ++ fresh all.next_instance start ∷ []) all.tasks;
    next_instance =
        all.next_instance + 1;
  },
)
carried_out all start (NewIntentTo task kept number) = (
  record { how = how.NewIntent; task = task.number; instance = number },
  record all { tasks = in_front task (with_intent number start.intent kept) all.tasks },
)
carried_out all start (FrontOf task) = (
  record { how = how.Fronted; task = task.number; instance = number_of (top_of task) },
  record all { tasks = in_front task task.instances all.tasks },
)

-- there are 64 tasks and a new one is to come, or 64 instances are kept of a task and a fresh one is to come
abbrev pub too_full : Tasks → Plan → Option PlaceFault
too_full all (NewTask single) = if nat_le 64 (length all.tasks) then Some TasksFull else None
too_full all (FreshOn task kept) = if nat_le 64 (length kept) then Some TaskFull else None
too_full all (NewIntentTo task kept number) = None
too_full all (FrontOf task) = None

-- the plan is carried out unless something is too full
abbrev pub placed : Tasks → StartCall → Plan → Option PlaceFault → Result (Landed × Tasks) PlaceFault
placed all start plan (Some fault) = Err fault
placed all start plan None = Ok (carried_out all start plan)

-- the start is placed by the plan, unless something is too full
abbrev pub place_as : Tasks → StartCall → Plan → Result (Landed × Tasks) PlaceFault
place_as all start plan = placed all start plan (too_full all plan)

-- a start from a source: the uid of the source's package is the caller's, or the caller is the system or the root
abbrev pub placed_from : Tasks → StartCall → Option ℕ → Result (Landed × Tasks) PlaceFault
placed_from all start None = Err NoSource
placed_from all start (Some owned) =
    if may_end start.caller owned then place_as all start (plan_of start all.tasks (source_task all.tasks start.source))
    else Err NotYours

-- a start with a source, or one without, which needs NEW_TASK
abbrev pub placed_by : Tasks → StartCall → Option ℕ → Result (Landed × Tasks) PlaceFault
placed_by all start None =
    if start.flags.new_task then place_as all start (plan_of start all.tasks None) else Err NeedsNewTask
placed_by all start (Some number) = placed_from all start (owner all number)

-- a start of an activity is placed
unfoldable pub place : Tasks → StartCall → Result (Landed × Tasks) PlaceFault
place all start = placed_by all start start.source
