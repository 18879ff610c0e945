-- Laws of root activities: an activity of the mode singleInstancePerTask stands nowhere but at the root of a task.
use Rattle.std.proofs.Common.{◌≡◌, ℕ, Bool, true, false, not, ◌&&◌, ◌||◌, cond, List, [], ◌∷◌, ◌++◌, map, refl, sym, ap, ◌∙◌, subst}
use Rattle.std.specs.Prelude.{Option, Some, None, Ok, Err, ◌==◌, reverse}
use Rattle.std.specs.List.{AllByRecursion, list_any, filter, find, prefix_len}
use Rattle.std.proofs.lemmas.Bool.{and_parts}
use Rattle.std.specs.Cmp.Lexicographic.{bytes_decides}
use Rattle.am_types.specs.declared.intent.Intent.{Intent}
use Rattle.am_types.specs.declared.intent.Component.{Component}
use Rattle.am_types.specs.declared.manifest.Mode.TheVariants.{Standard, SingleTop, SingleTask, SingleInstance, SingleInstancePerTask}
use Rattle.am_types.specs.declared.task.StartCall.{StartCall}
use Rattle.am_types.specs.declared.task.Landed.{Landed}
use Rattle.am_types.specs.declared.task.TaskFault.TheVariants.{NotYours}
use Rattle.am_model.specs.Texts.{is_same}
use Rattle.am_model.specs.Intents.{is_same_component, or_other}
use Rattle.am_model.specs.Tasks.{Instance, Task, Tasks, keeping, tasks_keeping, task_of, top_of, owner, may_end, without_instance, ended, finish, seen, back_from, back, forget_uid}
use Rattle.am_model.specs.Placement.{Plan, NewTask, FreshOn, NewIntentTo, FrontOf, plan_where, is_of, topmost, root_of, below, besides, with_intent, carried_out, plan_of, place, or_fresh, cleared_to, clearing_task, clearing_top, fronting, reordering, on_top, placed_in, placed_in_maybe, placed_single, placed_per_task, placed_ordinary, or_new_task, renewed, renewed_in, to_root, rooted, task_with, task_rooted, task_of_affinity, source_task, wants_new_task, is_multiple, is_mode}
use Rattle.am_model.proofs.Parts.{IsPart, end, keep, leave, IsPart-whole, IsPart-filter, IsPart-take, IsPart-part, none_of_part, none_of_more, found_passes}
use Rattle.am_model.proofs.Lists.{all_left}
use Rattle.am_model.proofs.PlacementLaws.{plan_for, place_carries_out}

-- the instances above the root
abbrev pub above_root : List Instance → List Instance
above_root [] = []
above_root (root ∷ others) = others

-- no instance of the component stands above the root
abbrev pub IsRootOnly : Component → List Instance → Type 0
IsRootOnly component instances = list_any (is_of component) (above_root instances) ≡ false

-- in no task does one stand there
abbrev pub AreRoots : Component → List Task → Type 0
AreRoots component tasks = AllByRecursion (λ (task : Task). IsRootOnly component task.instances) tasks

-- what stands above the root is a part
part_above : (instances : List Instance) → IsPart (above_root instances) instances
part_above [] = end
part_above (root ∷ others) = leave (IsPart-whole others)

-- what stands above the root of what is left is a part of what stood above the root
above_part : (xs ys : List Instance) → IsPart xs ys → IsPart (above_root xs) (above_root ys)
above_part xs ys end = end
above_part xs ys (keep part) = part
above_part xs (y ∷ ys) (leave part) = IsPart-part (above_root xs) xs ys (part_above xs) part

-- so what is left of a task has it at the root alone
roots_of_part : (component : Component) (xs ys : List Instance) → IsPart xs ys → IsRootOnly component ys
    → IsRootOnly component xs
roots_of_part component xs ys part roots = none_of_part (is_of component) (above_root xs) (above_root ys)
    (above_part xs ys part) roots

-- and with an instance of another component on top
roots_and_one : (component : Component) (xs : List Instance) (top : Instance) → IsRootOnly component xs
    → is_of component top ≡ false → IsRootOnly component (xs ++ top ∷ [])
roots_and_one component [] top roots other = refl
roots_and_one component (root ∷ others) top roots other = none_of_more (is_of component) others top roots other

-- a new intent changes no component
any_with_intent : (component : Component) (number : ℕ) (intent : Intent) (instances : List Instance)
    → list_any (is_of component) (with_intent number intent instances) ≡ list_any (is_of component) instances
any_with_intent component number intent [] = refl
any_with_intent component number intent (first ∷ others) = by (first.number == number)
    (any_with_intent component number intent others)
  where
    by : (b : Bool) → list_any (is_of component) (with_intent number intent others) ≡ list_any (is_of component) others
        → is_of component (cond b (record first { intent = intent }) first) || list_any (is_of component)
        (with_intent number intent others) ≡ is_of component first || list_any (is_of component) others
    by true rest = ap (λ b. is_of component first || b) rest
    by false rest = ap (λ b. is_of component first || b) rest

-- a new intent leaves the component at the root
roots_with_intent : (component : Component) (number : ℕ) (intent : Intent) (instances : List Instance)
    → IsRootOnly component instances → IsRootOnly component (with_intent number intent instances)
roots_with_intent component number intent [] roots = refl
roots_with_intent component number intent (root ∷ others) roots = any_with_intent component number intent others ∙ roots

-- what is left of the tasks has it at the roots alone
roots_of_tasks : (component : Component) (test : Task → Bool) (tasks : List Task) → AreRoots component tasks
    → AreRoots component (filter test tasks)
roots_of_tasks component test tasks roots = all_left (λ (task : Task). IsRootOnly component task.instances) test tasks
    roots

-- a task that is found has it at its root alone
roots_of_found : (component : Component) (test : Task → Bool) (tasks : List Task) (task : Task)
    → AreRoots component tasks → find test tasks ≡ Some task → IsRootOnly component task.instances
roots_of_found component test [] task roots is = absurd cc
roots_of_found component test (first ∷ others) task roots is = by (test first)
    (roots_of_found component test others task roots.1) is
  where
    by : (b : Bool) → (find test others ≡ Some task → IsRootOnly component task.instances)
        → cond b (Some first) (find test others) ≡ Some task → IsRootOnly component task.instances
    by true rest is = let same : first ≡ task = cc in subst (λ (t : Task). IsRootOnly component t.instances) same
        roots.0
    by false rest is = rest is

-- a plan that keeps the component at the root
abbrev pub IsRootPlan : Component → Plan → Type 0
IsRootPlan component (NewTask single) = Unit {0}
IsRootPlan component (FreshOn task kept) = (IsRootOnly component kept)
IsRootPlan component (NewIntentTo task kept number) = IsRootOnly component kept
IsRootPlan component (FrontOf task) = IsRootOnly component task.instances

-- a plan that is carried out, whose fresh instance, if it makes one above a root, is of another component
carried_roots : (component : Component) (all : Tasks) (start : StartCall) (plan : Plan)
    → is_same_component component start.target ≡ false → AreRoots component all.tasks → IsRootPlan component plan
    → AreRoots component (carried_out all start plan).1.tasks
carried_roots component all start (NewTask single) other roots plan = (refl, roots)
carried_roots component all start (FreshOn task kept) other roots plan =
    (roots_and_one component kept _ plan other, roots_of_tasks component _ all.tasks roots)
carried_roots component all start (NewIntentTo task kept number) other roots plan =
    (roots_with_intent component number start.intent kept plan, roots_of_tasks component _ all.tasks roots)
carried_roots component all start (FrontOf task) other roots plan = (plan, roots_of_tasks component _ all.tasks roots)

-- what may be no plan
abbrev IsRootPlanIfAny : Component → Option Plan → Type 0
IsRootPlanIfAny component None = Unit {0}
IsRootPlanIfAny component (Some plan) = IsRootPlan component plan

-- the first of two such plans
root_or : (component : Component) (plan other : Option Plan) → IsRootPlanIfAny component plan
    → IsRootPlanIfAny component other → IsRootPlanIfAny component (or_other plan other)
root_or component None other first second = second
root_or component (Some plan) other first second = first

-- such a plan where a condition holds
root_where : (component : Component) (test : Bool) (plan : Plan) → IsRootPlan component plan
    → IsRootPlanIfAny component (plan_where test plan)
root_where component true plan root = root
root_where component false plan root = tt

-- such a plan, or a fresh instance on top
root_fresh : (component : Component) (plan : Option Plan) (task : Task) → IsRootPlanIfAny component plan
    → IsRootOnly component task.instances → IsRootPlan component (or_fresh plan task)
root_fresh component None task root roots = roots
root_fresh component (Some plan) task root roots = root

-- an instance of one component isn't one of another
other_instance : (component target : Component) (instance : Instance) → is_same_component component target ≡ false
    → is_of target instance ≡ true → is_of component instance ≡ false
other_instance component target instance other is =
    let parts = and_parts (is_same target.«package» instance.component.«package»)
    (is_same target.class instance.component.class) is in
    let name : target.«package» ≡ instance.component.«package» = (bytes_decides target.«package»
    instance.component.«package»).0 parts.0 in
    let class : target.class ≡ instance.component.class = (bytes_decides target.class instance.component.class).0
    parts.1 in
    rw (← name, ← class) other

-- a task, if there is one, has the component at its root alone
abbrev IsRootTask : Component → Option Task → Type 0
IsRootTask component None = Unit {0}
IsRootTask component (Some task) = IsRootOnly component task.instances

-- a task that is found, if one is, has the component at its root alone
root_of_found : (component : Component) (test : Task → Bool) (tasks : List Task) (found : Option Task)
    → AreRoots component tasks → find test tasks ≡ found → IsRootTask component found
root_of_found component test tasks None roots is = tt
root_of_found component test tasks (Some task) roots is = roots_of_found component test tasks task roots is

-- the source's task is one of the tasks
root_of_source : (component : Component) (tasks : List Task) (source : Option ℕ) → AreRoots component tasks
    → IsRootTask component (source_task tasks source)
root_of_source component tasks None roots = tt
root_of_source component tasks (Some number) roots = root_of_found component _ tasks (task_of tasks number) roots refl

-- singleInstance: no instance is moved
root_single : (component : Component) (start : StartCall) (tasks : List Task) → AreRoots component tasks
    → IsRootPlan component (placed_single start tasks)
root_single component start tasks roots = by (task_with start.target tasks)
    (root_of_found component _ tasks (task_with start.target tasks) roots refl)
  where
    to : (task : Task) (found : Option Instance) → IsRootOnly component task.instances
        → IsRootPlan component (or_new_task (renewed_in task found) true)
    to task None roots = tt
    to task (Some instance) roots = roots

    by : (found : Option Task) → IsRootTask component found → IsRootPlan component
        (or_new_task (renewed start.target found) true)
    by None roots = tt
    by (Some task) roots = to task (topmost start.target task) roots

-- singleInstancePerTask: what is left is a root
root_per_task : (component : Component) (start : StartCall) (tasks : List Task)
    → IsRootPlan component (placed_per_task start tasks)
root_per_task component start tasks = by start.flags.multiple_task
  where
    to : (task : Task) (root : Option Instance) → IsRootPlan component (or_new_task (to_root task root) false)
    to task None = tt
    to task (Some root) = refl

    from : (found : Option Task) → IsRootPlan component (or_new_task (rooted found) false)
    from None = tt
    from (Some task) = to task (root_of task.instances)

    by : (b : Bool) → IsRootPlan component (cond b (NewTask false)
        (or_new_task (rooted (task_rooted start.target tasks)) false))
    by true = tt
    by false = from (task_rooted start.target tasks)

module _ (component : Component) (start : StartCall) (other : is_same_component component start.target ≡ false) where
  -- the topmost instance of the start's component isn't one of this
  topmost_is_other : (task : Task) (instance : Instance) → topmost start.target task ≡ Some instance
      → is_of component instance ≡ false
  topmost_is_other task instance is = other_instance component start.target instance other
      (found_passes (is_of start.target) (reverse task.instances) instance is)

  -- clearing down to an instance of another component
  root_cleared : (task : Task) (instance : Instance) → is_of component instance ≡ false
      → IsRootOnly component task.instances → IsRootPlan component (cleared_to start task instance)
  root_cleared task instance differs roots = by (is_mode Standard start.mode && not start.flags.single_top)
    where
      left : IsRootOnly component (below instance.number task.instances)
      left = roots_of_part component (below instance.number task.instances) task.instances
          (IsPart-take (prefix_len (λ (i : Instance). not (i.number == instance.number)) task.instances) task.instances)
          roots

      by : (b : Bool) → IsRootPlan component (cond b (FreshOn task (below instance.number task.instances))
          (NewIntentTo task (below instance.number task.instances ++ instance ∷ []) instance.number))
      by true = left
      by false = roots_and_one component (below instance.number task.instances) instance left differs

  -- clearing, where an instance is found
  root_clearing : (task : Task) (found : Option Instance) → topmost start.target task ≡ found
      → IsRootOnly component task.instances → IsRootPlanIfAny component (clearing_top start task found)
  root_clearing task None is roots = tt
  root_clearing task (Some instance) is roots =
      root_where component (is_mode SingleTask start.mode || start.flags.clear_top) (cleared_to start task instance)
      (root_cleared task instance (topmost_is_other task instance is) roots)

  -- moving an instance of another component to the top
  root_reordering : (wanted : Bool) (task : Task) (found : Option Instance) → topmost start.target task ≡ found
      → IsRootOnly component task.instances → IsRootPlanIfAny component (reordering start wanted task found)
  root_reordering wanted task None is roots = tt
  root_reordering wanted task (Some instance) is roots =
      root_where component ((not wanted && start.flags.reorder_to_front) && not start.flags.clear_top) _
      (roots_and_one component (besides instance.number task.instances) instance
      (roots_of_part component (besides instance.number task.instances) task.instances (IsPart-filter _ task.instances)
      roots)
      (topmost_is_other task instance is))

  -- a new intent to the top
  root_on_top : (task : Task) (found : Option Instance) → IsRootOnly component task.instances
      → IsRootPlanIfAny component (on_top start task found)
  root_on_top task None roots = tt
  root_on_top task (Some top) roots = root_where component (is_of start.target top &&
      (is_mode SingleTop start.mode || start.flags.single_top)) _ roots

  -- a start in a task
  root_placed_in : (wanted : Bool) (task : Task) → IsRootOnly component task.instances
      → IsRootPlan component (placed_in start wanted task)
  root_placed_in wanted task roots =
      root_fresh component _ task
      (root_or component (clearing_task start wanted task) _ (root_where component _ (FreshOn task []) refl)
      (root_or component (clearing_top start task (topmost start.target task)) _
      (root_clearing task (topmost start.target task) refl roots)
      (root_or component (fronting start wanted task) _ (root_where component _ (FrontOf task) roots)
      (root_or component (reordering start wanted task (topmost start.target task)) _
      (root_reordering wanted task (topmost start.target task) refl roots)
      (root_on_top task (top_of task) roots)))))
      roots

  -- a start in a mode that looks for a task
  root_ordinary : (tasks : List Task) (wanted : Bool) (source : Option Task) → AreRoots component tasks
      → IsRootTask component source → IsRootPlan component (placed_ordinary start tasks wanted source)
  root_ordinary tasks wanted source roots here = by (is_multiple start wanted)
    where
      within : (found : Option Task) → IsRootTask component found → IsRootPlan component
          (placed_in_maybe start wanted found)
      within None roots = tt
      within (Some task) roots = root_placed_in wanted task roots

      either : (b : Bool) → IsRootTask component (cond b (task_of_affinity start.affinity tasks) source)
      either true = root_of_found component _ tasks (task_of_affinity start.affinity tasks) roots refl
      either false = here

      by : (b : Bool) → IsRootPlan component (cond b (NewTask false)
          (placed_in_maybe start wanted (cond wanted (task_of_affinity start.affinity tasks) source)))
      by true = tt
      by false = within (cond wanted (task_of_affinity start.affinity tasks) source) (either wanted)

  -- a start of another component is placed so that the component stays at its roots
  root_plan : (tasks : List Task) (source : Option Task) → AreRoots component tasks → IsRootTask component source
      → IsRootPlan component (plan_of start tasks source)
  root_plan tasks source roots here = by (is_mode SingleInstance start.mode) (is_mode SingleInstancePerTask start.mode)
    where
      by : (single per_task : Bool) → IsRootPlan component (cond single (placed_single start tasks)
          (cond per_task (placed_per_task start tasks) (placed_ordinary start tasks (wants_new_task start source)
          source)))
      by true per_task = root_single component start tasks roots
      by false true = root_per_task component start tasks
      by false false = root_ordinary tasks (wants_new_task start source) source roots here

-- a start of another component leaves each instance of the component at the root of its task
pub place_keeps_roots : (component : Component) (all : Tasks) (start : StartCall) (result : Landed × Tasks)
    → is_same_component component start.target ≡ false
    → AreRoots component all.tasks → place all start ≡ Ok result → AreRoots component result.1.tasks
place_keeps_roots component all start result other roots done =
    subst (λ (r : Landed × Tasks). AreRoots component r.1.tasks) (sym (place_carries_out all start result done))
    (carried_roots component all start (plan_for all start) other roots
    (root_plan component start other all.tasks (source_task all.tasks start.source) roots
    (root_of_source component all.tasks start.source roots)))

-- what such a start carries out
carried_per_task : (component : Component) (all : Tasks) (start : StartCall) → AreRoots component all.tasks
    → AreRoots component (carried_out all start (placed_per_task start all.tasks)).1.tasks
carried_per_task component all start roots = by start.flags.multiple_task
  where
    after : Plan → Type 0
    after plan = AreRoots component (carried_out all start plan).1.tasks

    to : (task : Task) (root : Option Instance) → after (or_new_task (to_root task root) false)
    to task None = (refl, roots)
    to task (Some root) = (refl, roots_of_tasks component _ all.tasks roots)

    from : (found : Option Task) → after (or_new_task (rooted found) false)
    from None = (refl, roots)
    from (Some task) = to task (root_of task.instances)

    by : (b : Bool) → after (cond b (NewTask false) (or_new_task (rooted (task_rooted start.target all.tasks)) false))
    by true = (refl, roots)
    by false = from (task_rooted start.target all.tasks)

-- and so does a start of the component in the mode singleInstancePerTask
pub place_at_root : (component : Component) (all : Tasks) (start : StartCall) (result : Landed × Tasks) → start.mode
    ≡ SingleInstancePerTask
    → AreRoots component all.tasks → place all start ≡ Ok result → AreRoots component result.1.tasks
place_at_root component all start result mode roots done =
    let plan : plan_for all start ≡ placed_per_task start all.tasks = rw mode refl in
    subst (λ (r : Landed × Tasks). AreRoots component r.1.tasks) (sym (place_carries_out all start result done))
    (subst (λ (p : Plan). AreRoots component (carried_out all start p).1.tasks) (sym plan)
    (carried_per_task component all start roots))

-- what ends instances leaves the component at the roots
pub keeping_keeps_roots : (component : Component) (keeps : Instance → Bool) (tasks : List Task)
    → AreRoots component tasks → AreRoots component (tasks_keeping keeps tasks)
keeping_keeps_roots component keeps tasks roots = roots_of_tasks component _ (map (keeping keeps) tasks)
    (kept tasks roots)
  where
    kept : (list : List Task) → AreRoots component list → AreRoots component (map (keeping keeps) list)
    kept [] roots = tt
    kept (task ∷ others) roots = (
      roots_of_part component (filter keeps task.instances) task.instances
          (IsPart-filter keeps task.instances) roots.0,
      kept others roots.1,
    )

-- an activity that is ended leaves each instance of the component at the root of its task
pub finish_keeps_roots : (component : Component) (all after : Tasks) (number uid : ℕ) → AreRoots component all.tasks
    → finish all number uid ≡ Ok after → AreRoots component after.tasks
unfolding finish
finish_keeps_roots component all after number uid roots done = by (owner all number) done
  where
    kept : AreRoots component (without_instance all number).tasks
    kept = keeping_keeps_roots component _ all.tasks roots

    where_owned : (b : Bool) → cond b (Ok (without_instance all number)) (Err NotYours) ≡ Ok after
        → AreRoots component after.tasks
    where_owned true done = let same : without_instance all number
        ≡ after = cc in subst (λ (t : Tasks). AreRoots component t.tasks) same kept
    where_owned false done = absurd cc

    by : (owned : Option ℕ) → ended all number uid owned ≡ Ok after → AreRoots component after.tasks
    by None done = absurd cc
    by (Some owned) done = where_owned (may_end uid owned) done

-- and so does going back
pub back_keeps_roots : (component : Component) (all : Tasks) → AreRoots component all.tasks
    → AreRoots component (back all).1.tasks
back_keeps_roots component all roots = by (seen all.tasks)
  where
    by : (found : Option Instance) → AreRoots component (back_from all found).1.tasks
    by None = roots
    by (Some instance) = keeping_keeps_roots component _ all.tasks roots

-- and so does an app that is forgotten
pub forget_keeps_roots : (component : Component) (all : Tasks) (uid : ℕ) → AreRoots component all.tasks
    → AreRoots component (forget_uid all uid).tasks
forget_keeps_roots component all uid roots = keeping_keeps_roots component _ all.tasks roots
