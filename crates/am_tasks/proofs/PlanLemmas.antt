-- What is found by its place makes the plan.
use Rattle.std.proofs.Common.{◌≡◌, ℕ, ◌<◌, true, false, List, [], ◌∷◌, ◌++◌, length, get_or, Option, Some, None, refl, sym, ap, ◌∙◌, subst, arith}
use Rattle.std.specs.Prelude.{option_to_list}
use Rattle.std.specs.List.{position, slice_get}
use Rattle.std.proofs.lemmas.Bool.{eq-eqb}
use Rattle.std.proofs.lemmas.List.{get_or_default}
use Rattle.am_types.specs.declared.task.StartCall.{StartCall}
use Rattle.am_types.specs.declared.intent.Component.{Component}
use Rattle.am_model.specs.Tasks.{Instance, Task}
use Rattle.am_model.specs.Placement as model
use Rattle.am_model.specs.Placement.{below, number_of, is_of, is_maybe_of, root_of, topmost, task_rooted, task_with, to_root, rooted, renewed, renewed_in, or_new_task, placed_single, placed_per_task}
use Rattle.am_tasks.specs.declared.plan.Change.TheVariants.{NewIntent}
use Rattle.am_tasks.specs.declared.plan.Keeping.TheVariants.{All, Below}
use Rattle.am_tasks.specs.declared.plan.Plan.TheVariants.{InTask}
use Rattle.am_tasks.specs.Finds.{has_component, is_rooted}
use Rattle.am_tasks.specs.Plans.{number_at, change_in, IsIn, Plans}
use Rattle.am_tasks.proofs.Finding.{place_found, none_found, at_there}

-- without a task of that root a new one is made
pub per_task_none : (start : StartCall) (tasks : List Task) → start.flags.multiple_task ≡ false
    → position (is_rooted start.target) tasks ≡ None → placed_per_task start tasks ≡ model.NewTask false
per_task_none start tasks one none = rw one (ap (λ found. or_new_task (rooted found) false)
    (none_found (is_rooted start.target) tasks none))

-- the root of a task that has one gets the new intent
root_renewed : (component : Component) (task : Task) → is_rooted component task ≡ true
    → IsIn task (NewIntent Below 0) × (or_new_task (to_root task (root_of task.instances)) false
    ≡ change_in task (NewIntent Below 0))
root_renewed component task passes = by task.instances passes
  where
    by : (instances : List Instance) → is_maybe_of component (root_of instances) ≡ true
        → (0 < length instances) × (or_new_task (to_root task (root_of instances)) false
        ≡ model.NewIntentTo task (below (number_at instances 0) instances ++ option_to_list (slice_get instances 0))
        (number_at instances 0))
    by [] passes = absurd cc
    by (root ∷ others) passes = (omega arith, rw (eq-eqb root.number root.number refl) refl)

-- the task of that root is cleared down to it
pub per_task_at : (start : StartCall) (tasks : List Task) (place : ℕ) → start.flags.multiple_task ≡ false
    → position (is_rooted start.target) tasks ≡ Some place
    → Plans tasks (InTask place (NewIntent Below 0)) (placed_per_task start tasks)
per_task_at start tasks place one found =
    let here = place_found (is_rooted start.target) tasks place found in (
      here.within,
      λ (d : Task).
          let task : Task = get_or tasks place d in
          let root = root_renewed start.target task (here.passes d) in
          let plan : placed_per_task start tasks ≡ or_new_task (rooted (task_rooted start.target tasks)) false = rw one
          refl in
          (root.0, plan ∙ ap (λ found. or_new_task (rooted found) false) (here.is d) ∙ root.1),
    )

-- without a task that has the component a new one is made for it alone
pub single_none : (start : StartCall) (tasks : List Task) → position (has_component start.target) tasks ≡ None
    → placed_single start tasks ≡ model.NewTask true
single_none start tasks none = ap (λ found. or_new_task (renewed start.target found) true)
    (none_found (has_component start.target) tasks none)

-- in the task that has it
single_in : (start : StartCall) (tasks : List Task) (place : ℕ) (d : Task) → position (has_component start.target) tasks
    ≡ Some place
    → placed_single start tasks ≡ or_new_task (renewed_in (get_or tasks place d)
    (topmost start.target (get_or tasks place d))) true
single_in start tasks place d found =
    let here = place_found (has_component start.target) tasks place found in
    ap (λ found. or_new_task (renewed start.target found) true) (here.is d)

-- if nothing is found in it, a new one is made too
pub single_lost : (start : StartCall) (tasks : List Task) (place : ℕ) (task : Task)
    → position (has_component start.target) tasks ≡ Some place
    → task ≡ get_or tasks place task → None ≡ topmost start.target task → placed_single start tasks ≡ model.NewTask true
single_lost start tasks place task found is none =
    single_in start tasks place task found
    ∙ subst (λ (t : Task). or_new_task (renewed_in t (topmost start.target t)) true ≡ model.NewTask true) is
    (ap (λ top. or_new_task (renewed_in task top) true) (sym none))

-- the topmost instance gets the new intent
pub single_at : (start : StartCall) (tasks : List Task) (place instance : ℕ) (task : Task)
    → position (has_component start.target) tasks ≡ Some place
    → task ≡ get_or tasks place task → slice_get task.instances instance ≡ topmost start.target task
    → instance < length task.instances
    → Plans tasks (InTask place (NewIntent All instance)) (placed_single start tasks)
single_at start tasks place instance task found is top low =
    let here = place_found (has_component start.target) tasks place found in (
      here.within,
      λ (d : Task).
          let same : task ≡ get_or tasks place d = is ∙ get_or_default tasks place task d here.within in
          subst (λ (t : Task). IsIn t (NewIntent All instance) × (placed_single start tasks
          ≡ change_in t (NewIntent All instance))) same (
            low,
            single_in start tasks place task found
                ∙ subst (λ (t : Task). or_new_task (renewed_in t (topmost start.target t)) true
                ≡ change_in task (NewIntent All instance)) is
                (ap (λ top. or_new_task (renewed_in task top) true) (sym top)
                ∙ there (slice_get task.instances instance) (at_there task.instances instance low).0
                (at_there task.instances instance low).1),
          ),
    )
  where
    there : (found : Option Instance) (i : Instance) → found ≡ Some i → or_new_task (renewed_in task found) true
        ≡ model.NewIntentTo task task.instances (number_of found)
    there found i is = rw is refl
