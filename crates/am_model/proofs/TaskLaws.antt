-- Laws of tasks: none is without an activity, and going back ends one just where there is a task.
use Rattle.std.proofs.Common.{◌≡◌, ℕ, Bool, true, false, not, ◌&&◌, ◌||◌, cond, List, [], ◌∷◌, ◌++◌, map, refl, sym, subst}
use Rattle.std.specs.Prelude.{Option, Some, None, Ok}
use Rattle.std.proofs.lemmas.Bool.{cond_both}
use Rattle.std.specs.List.{list_any, filter, find, last_or}
use Rattle.am_types.specs.declared.manifest.Mode.TheVariants.{Standard, SingleTop, SingleTask, SingleInstance, SingleInstancePerTask}
use Rattle.am_model.specs.Filters.{is_empty}
use Rattle.am_types.specs.declared.intent.Intent.{Intent}
use Rattle.am_types.specs.declared.task.StartCall.{StartCall}
use Rattle.am_types.specs.declared.task.Landed.{Landed}
use Rattle.am_model.specs.Texts.{is_same}
use Rattle.am_model.specs.Tasks.{Instance, Task, Tasks, is_number, keeping, tasks_keeping, top_of, seen, back_from, back}
use Rattle.am_model.specs.Intents.{or_other}
use Rattle.am_model.specs.Placement.{Plan, NewTask, FreshOn, NewIntentTo, FrontOf, plan_where, is_of, topmost, root_of, below, besides, with_intent, carried_out, plan_of, place, or_fresh, cleared_to, clearing_task, clearing_top, fronting, reordering, on_top, placed_in_maybe, placed_single, placed_per_task, placed_ordinary, or_new_task, renewed, renewed_in, to_root, rooted, task_with, task_rooted, task_of_affinity, source_task, wants_new_task, is_multiple, is_mode}
use Rattle.am_model.proofs.PlacementLaws.{plan_for, place_carries_out}

-- each task has an instance
abbrev pub AreInhabited : List Task → Type 0
AreInhabited [] = Unit {0}
AreInhabited (task ∷ others) = (is_empty task.instances ≡ false) × AreInhabited others

-- tasks of which those without an instance were left out have one
left_inhabited : (tasks : List Task) → AreInhabited (filter (λ (task : Task). not (is_empty task.instances)) tasks)
left_inhabited [] = tt
left_inhabited (task ∷ others) = by (is_empty task.instances) refl (left_inhabited others)
  where
    left : List Task
    left = filter (λ (t : Task). not (is_empty t.instances)) others

    by : (b : Bool) → is_empty task.instances ≡ b → AreInhabited left → AreInhabited (cond (not b) (task ∷ left) left)
    by true is rest = rest
    by false is rest = (is, rest)

-- what ends instances leaves no task without one
pub keeping_inhabited : (keeps : Instance → Bool) (tasks : List Task) → AreInhabited (tasks_keeping keeps tasks)
keeping_inhabited keeps tasks = left_inhabited (map (keeping keeps) tasks)

-- there is a last one where there is a first
last_is_there : {X : Type 0} (x : X) (xs : List X) → last_or (Some x) xs ≡ None → ⊥
last_is_there x [] none = cc
last_is_there x (y ∷ ys) none = last_is_there y ys none

-- going back without a task ends nothing
pub back_without_tasks : (all : Tasks) → all.tasks ≡ [] → back all ≡ (None, all)
back_without_tasks all none = rw none refl

-- where it ends nothing there is no task
pub back_ends_one : (all : Tasks) → AreInhabited all.tasks → (back all).0 ≡ None → all.tasks ≡ []
back_ends_one all inhabited none = by all.tasks inhabited none
  where
    top : (instances : List Instance) → is_empty instances ≡ false → (back_from all (last_or None instances)).0 ≡ None
        → ⊥
    top [] there none = cc
    top (first ∷ others) there none = one (last_or (Some first) others) refl none
      where
        one : (found : Option Instance) → last_or (Some first) others ≡ found → (back_from all found).0 ≡ None → ⊥
        one None is none = last_is_there first others is
        one (Some instance) is none = cc

    by : (tasks : List Task) → AreInhabited tasks → (back_from all (seen tasks)).0 ≡ None → tasks ≡ []
    by [] inhabited none = refl
    by (front ∷ others) inhabited none = absurd (top front.instances inhabited.0 none)

-- with something on top there is an instance
one_on_top : (instances : List Instance) (top : Instance) → is_empty (instances ++ top ∷ []) ≡ false
one_on_top [] top = refl
one_on_top (first ∷ others) top = refl

-- after a new intent there is one where there was
intent_leaves_one : (number : ℕ) (intent : Intent) (instances : List Instance) → is_empty instances ≡ false
    → is_empty (with_intent number intent instances) ≡ false
intent_leaves_one number intent [] there = there
intent_leaves_one number intent (first ∷ others) there = refl

-- what is left of the tasks has an instance
filter_inhabited : (test : Task → Bool) (tasks : List Task) → AreInhabited tasks → AreInhabited (filter test tasks)
filter_inhabited test [] inhabited = tt
filter_inhabited test (first ∷ others) inhabited = by (test first) (filter_inhabited test others inhabited.1)
  where
    by : (b : Bool) → AreInhabited (filter test others) → AreInhabited
        (cond b (first ∷ filter test others) (filter test others))
    by true rest = (inhabited.0, rest)
    by false rest = rest

-- a task, if there is one, has an instance
abbrev IsInhabited : Option Task → Type 0
IsInhabited None = Unit {0}
IsInhabited (Some task) = is_empty task.instances ≡ false

-- a task that is found has one
found_inhabited : (test : Task → Bool) (tasks : List Task) → AreInhabited tasks → IsInhabited (find test tasks)
found_inhabited test [] inhabited = tt
found_inhabited test (first ∷ others) inhabited = by (test first) (found_inhabited test others inhabited.1)
  where
    by : (b : Bool) → IsInhabited (find test others) → IsInhabited (cond b (Some first) (find test others))
    by true rest = inhabited.0
    by false rest = rest

-- and so has the source's
source_inhabited : (tasks : List Task) (source : Option ℕ) → AreInhabited tasks → IsInhabited (source_task tasks source)
source_inhabited tasks None inhabited = tt
source_inhabited tasks (Some number) inhabited = found_inhabited (λ (task : Task). list_any (is_number number)
    task.instances) tasks inhabited

-- a plan that leaves no task without an instance
abbrev IsInhabitedPlan : Plan → Type 0
IsInhabitedPlan (NewTask single) = Unit {0}
IsInhabitedPlan (FreshOn task kept) = Unit {0}
IsInhabitedPlan (NewIntentTo task kept number) = is_empty kept ≡ false
IsInhabitedPlan (FrontOf task) = is_empty task.instances ≡ false

-- such a plan that is carried out
carried_inhabited : (all : Tasks) (start : StartCall) (plan : Plan) → AreInhabited all.tasks → IsInhabitedPlan plan
    → AreInhabited (carried_out all start plan).1.tasks
carried_inhabited all start (NewTask single) inhabited plan = (refl, inhabited)
carried_inhabited all start (FreshOn task kept) inhabited plan = (
  one_on_top kept _,
  filter_inhabited _ all.tasks
      inhabited,
)
carried_inhabited all start (NewIntentTo task kept number) inhabited plan =
    (intent_leaves_one number start.intent kept plan, filter_inhabited _ all.tasks inhabited)
carried_inhabited all start (FrontOf task) inhabited plan = (plan, filter_inhabited _ all.tasks inhabited)

-- what may be no plan
abbrev IsInhabitedIfAny : Option Plan → Type 0
IsInhabitedIfAny None = Unit {0}
IsInhabitedIfAny (Some plan) = IsInhabitedPlan plan

-- the first of two such plans
or_inhabited : (plan other : Option Plan) → IsInhabitedIfAny plan → IsInhabitedIfAny other
    → IsInhabitedIfAny (or_other plan other)
or_inhabited None other first second = second
or_inhabited (Some plan) other first second = first

-- such a plan where a condition holds
where_inhabited : (test : Bool) (plan : Plan) → IsInhabitedPlan plan → IsInhabitedIfAny (plan_where test plan)
where_inhabited true plan inhabited = inhabited
where_inhabited false plan inhabited = tt

-- such a plan, or a fresh instance
fresh_inhabited : (plan : Option Plan) (task : Task) → IsInhabitedIfAny plan → IsInhabitedPlan (or_fresh plan task)
fresh_inhabited None task inhabited = tt
fresh_inhabited (Some plan) task inhabited = inhabited

module _ (start : StartCall) where
  -- a start in the mode singleInstance
  single_inhabited : (tasks : List Task) → AreInhabited tasks → IsInhabitedPlan (placed_single start tasks)
  single_inhabited tasks inhabited = by (task_with start.target tasks)
      (found_inhabited (λ (task : Task). list_any (is_of start.target) task.instances) tasks inhabited)
    where
      to : (task : Task) (found : Option Instance) → is_empty task.instances ≡ false
          → IsInhabitedPlan (or_new_task (renewed_in task found) true)
      to task None there = tt
      to task (Some instance) there = there

      by : (found : Option Task) → IsInhabited found → IsInhabitedPlan (or_new_task (renewed start.target found) true)
      by None there = tt
      by (Some task) there = to task (topmost start.target task) there

  -- a start in the mode singleInstancePerTask
  per_task_inhabited : (tasks : List Task) → IsInhabitedPlan (placed_per_task start tasks)
  per_task_inhabited tasks = by start.flags.multiple_task
    where
      to : (task : Task) (root : Option Instance) → IsInhabitedPlan (or_new_task (to_root task root) false)
      to task None = tt
      to task (Some root) = refl

      from : (found : Option Task) → IsInhabitedPlan (or_new_task (rooted found) false)
      from None = tt
      from (Some task) = to task (root_of task.instances)

      by : (b : Bool) → IsInhabitedPlan (cond b (NewTask false) (or_new_task (rooted (task_rooted start.target tasks))
          false))
      by true = tt
      by false = from (task_rooted start.target tasks)

  -- clearing, where an instance is found
  cleared_inhabited : (task : Task) (found : Option Instance) → IsInhabitedIfAny (clearing_top start task found)
  cleared_inhabited task None = tt
  cleared_inhabited task (Some instance) = where_inhabited (is_mode SingleTask start.mode || start.flags.clear_top)
      (cleared_to start task instance) (by (is_mode Standard start.mode && not start.flags.single_top))
    where
      left : List Instance
      left = below instance.number task.instances

      by : (b : Bool) → IsInhabitedPlan (cond b (FreshOn task left)
          (NewIntentTo task (left ++ instance ∷ []) instance.number))
      by true = tt
      by false = one_on_top left instance

  -- moving an instance to the top
  reordered_inhabited : (wanted : Bool) (task : Task) (found : Option Instance)
      → IsInhabitedIfAny (reordering start wanted task found)
  reordered_inhabited wanted task None = tt
  reordered_inhabited wanted task (Some instance) =
      where_inhabited ((not wanted && start.flags.reorder_to_front) && not start.flags.clear_top) _
      (one_on_top (besides instance.number task.instances) instance)

  -- a new intent to the top
  on_top_inhabited : (task : Task) (found : Option Instance) → is_empty task.instances ≡ false
      → IsInhabitedIfAny (on_top start task found)
  on_top_inhabited task None there = tt
  on_top_inhabited task (Some top) there = where_inhabited (is_of start.target top &&
      (is_mode SingleTop start.mode || start.flags.single_top)) _ there

  -- a start in a task, if there is one
  within_inhabited : (wanted : Bool) (found : Option Task) → IsInhabited found
      → IsInhabitedPlan (placed_in_maybe start wanted found)
  within_inhabited wanted None there = tt
  within_inhabited wanted (Some task) there =
      fresh_inhabited _ task
      (or_inhabited (clearing_task start wanted task) _ (where_inhabited _ (FreshOn task []) tt)
      (or_inhabited (clearing_top start task (topmost start.target task)) _
      (cleared_inhabited task (topmost start.target task))
      (or_inhabited (fronting start wanted task) _ (where_inhabited _ (FrontOf task) there)
      (or_inhabited (reordering start wanted task (topmost start.target task)) _
      (reordered_inhabited wanted task (topmost start.target task))
      (on_top_inhabited task (top_of task) there)))))

  -- a start in another mode
  ordinary_inhabited : (tasks : List Task) (wanted : Bool) (source : Option Task) → AreInhabited tasks
      → IsInhabited source → IsInhabitedPlan (placed_ordinary start tasks wanted source)
  ordinary_inhabited tasks wanted source inhabited here =
      let own = found_inhabited (λ (task : Task). (not task.single && not (is_empty start.affinity)) && is_same
      task.affinity start.affinity) tasks inhabited in
      let found = cond wanted (task_of_affinity start.affinity tasks) source in
      let there = cond_both wanted (task_of_affinity start.affinity tasks) source IsInhabited (λ is. own) (λ is. here) in
      cond_both (is_multiple start wanted) (NewTask false) (placed_in_maybe start wanted found) IsInhabitedPlan (λ is. tt)
      (λ is. within_inhabited wanted found there)

  -- the plan of a start
  plan_inhabited : (tasks : List Task) (source : Option Task) → AreInhabited tasks → IsInhabited source
      → IsInhabitedPlan (plan_of start tasks source)
  plan_inhabited tasks source inhabited here = by (is_mode SingleInstance start.mode)
      (is_mode SingleInstancePerTask start.mode)
    where
      by : (single per_task : Bool) → IsInhabitedPlan (cond single (placed_single start tasks)
          (cond per_task (placed_per_task start tasks) (placed_ordinary start tasks (wants_new_task start source)
          source)))
      by true per_task = single_inhabited tasks inhabited
      by false true = per_task_inhabited tasks
      by false false = ordinary_inhabited tasks (wants_new_task start source) source inhabited here

-- a start leaves no task without an instance
pub place_inhabited : (all : Tasks) (start : StartCall) (result : Landed × Tasks) → AreInhabited all.tasks
    → place all start ≡ Ok result → AreInhabited result.1.tasks
place_inhabited all start result inhabited done =
    subst (λ (r : Landed × Tasks). AreInhabited r.1.tasks) (sym (place_carries_out all start result done))
    (carried_inhabited all start (plan_for all start) inhabited
    (plan_inhabited start all.tasks (source_task all.tasks start.source) inhabited
    (source_inhabited all.tasks start.source inhabited)))
