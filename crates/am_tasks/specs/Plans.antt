-- What a start does, in terms of places: of its task among the tasks, and of an instance in that task.
use Rattle.std.specs.Prelude.{◌≡◌, ℕ, ◌<◌, List, [], ◌++◌, length, slice_get, option_to_list}
use Rattle.std.specs.List.{HoldsAt}
use Rattle.am_types.specs.declared.task.StartCall.{StartCall}
use Rattle.am_model.specs.Tasks.{Instance, Task, Tasks}
use Rattle.am_model.specs.Placement as model
use Rattle.am_model.specs.Placement.{below, besides, number_of, plan_of, source_task}
use Rattle.am_tasks.specs.declared.plan.Change.{Change}
use Rattle.am_tasks.specs.declared.plan.Change.TheVariants.{FreshRoot, FreshAt, FreshOnTop, NewIntent, OnlyFronted}
use Rattle.am_tasks.specs.declared.plan.Keeping.{Keeping}
use Rattle.am_tasks.specs.declared.plan.Keeping.TheVariants.{All, Below, Others}
use Rattle.am_tasks.specs.declared.plan.Plan.{Plan}
use Rattle.am_tasks.specs.declared.plan.Plan.TheVariants.{NewTask, InTask}

-- the number of the instance at a place
abbrev pub number_at : List Instance → ℕ → ℕ
number_at instances place = number_of (slice_get instances place)

-- what is kept of a task for a new intent to the instance at a place
abbrev pub kept_by : Keeping → ℕ → List Instance → List Instance
kept_by All place instances = instances
kept_by Below place instances = below (number_at instances place) instances
    ++ option_to_list (slice_get instances place)
kept_by Others place instances = besides (number_at instances place) instances
    ++ option_to_list (slice_get instances place)

-- what the change makes of a task
abbrev pub change_in : Task → Change → model.Plan
change_in task FreshRoot = model.FreshOn task []
change_in task (FreshAt place) = model.FreshOn task (below (number_at task.instances place) task.instances)
change_in task FreshOnTop = model.FreshOn task task.instances
change_in task (NewIntent keeping place) =
    model.NewIntentTo task (kept_by keeping place task.instances) (number_at task.instances place)
change_in task OnlyFronted = model.FrontOf task

-- the change refers to an instance that the task has
abbrev pub IsIn : Task → Change → Type 0
IsIn task FreshRoot = Unit {0}
IsIn task (FreshAt place) = place < length task.instances
IsIn task FreshOnTop = Unit {0}
IsIn task (NewIntent keeping place) = place < length task.instances
IsIn task OnlyFronted = Unit {0}

-- the plan in terms of places is the same as the plan in terms of tasks
abbrev pub Plans : List Task → Plan → model.Plan → Type 0
Plans tasks (NewTask single) plan = plan ≡ model.NewTask single
Plans tasks (InTask place change) plan =
    (place < length tasks) × HoldsAt (λ (task : Task). IsIn task change × (plan ≡ change_in task change)) tasks place

-- what the start does to the tasks
abbrev pub plan_for : Tasks → StartCall → model.Plan
plan_for all start = plan_of start all.tasks (source_task all.tasks start.source)
