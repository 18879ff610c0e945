-- What holds of each instance after a start is placed.
use Rattle.std.proofs.Common.{◌≡◌, ℕ, ◌<◌, ◌≤◌, Bool, true, false, not, ◌&&◌, ◌||◌, cond, eqb, List, [], ◌∷◌, ◌++◌, map, reverse, refl, sym, ap, ◌∙◌, subst, arith}
use Rattle.std.specs.Prelude.{All, Option, Some, None, filter, ◌==◌}
use Rattle.std.specs.List.{Contains, find, last_or, list_any}
use Rattle.std.specs.Cmp.Lexicographic.{bytes_decides}
use Rattle.std.proofs.lemmas.Bool.{eqb-true}
use Rattle.std.proofs.lemmas.List.Elements.{All-nil, All-cons, All-head, All-tail, All-push, All-filter, All-map, All-take, All-weaker, All-contains_itself, Contains-append_right, filter_passes}
use Rattle.std.proofs.lemmas.List.Sorted.{All-permutation, IsPermutation-reverse}
use Rattle.am_types.specs.declared.intent.Component.{Component}
use Rattle.am_types.specs.declared.task.StartCall.{StartCall}
use Rattle.am_types.specs.declared.manifest.Mode.TheVariants.{Standard, SingleTop, SingleTask, SingleInstance, SingleInstancePerTask}
use Rattle.am_model.specs.Texts.{is_same}
use Rattle.am_model.specs.Filters.{is_empty}
use Rattle.am_model.specs.Intents.{is_same_component, or_other}
use Rattle.am_model.specs.Tasks.{Instance, Task, Tasks, is_number, keeping, tasks_keeping, top_of}
use Rattle.am_model.specs.Placement.{Plan, NewTask, FreshOn, NewIntentTo, FrontOf, plan_where, is_of, topmost, root_of, is_maybe_of, below, besides, in_front, new_task, fresh, with_intent, carried_out, or_fresh, cleared_to, clearing_task, clearing_top, fronting, reordering, on_top, placed_in_maybe, placed_single, placed_per_task, placed_ordinary, or_new_task, renewed, renewed_in, to_root, rooted, task_with, task_rooted, task_of_affinity, source_task, wants_new_task, is_multiple, is_mode}
use Rattle.am_model.proofs.Parts.{found_passes}
use Rattle.am_model.proofs.PlacementLaws.{plan_for}
use Rattle.am_laws.specs.Access.{OfInstances}
use Rattle.am_laws.proofs.Tests.{both, either_holds}

-- components that are the same
pub same_component : (a b : Component) → is_same_component a b ≡ true → a ≡ b
same_component a b is =
    let parts = both (is_same a.«package» b.«package») (is_same a.class b.class) is in
    let name : a.«package» ≡ b.«package» = (bytes_decides a.«package» b.«package»).0 parts.0 in
    let class : a.class ≡ b.class = (bytes_decides a.class b.class).0 parts.1 in
    λ k. record { «package» = name k; class = class k }

-- what is found among some is one of them
pub found_holds : {X : Type 0} (P : X → Type 0) (test : X → Bool) (xs : List X) (x : X) → All P xs → find test xs
    ≡ Some x → P x
found_holds P test [] x all is = absurd cc
found_holds P test (first ∷ others) x all is = by (test first) (found_holds P test others x
    (All-tail P first others all)) is
  where
    by : (b : Bool) → (find test others ≡ Some x → P x) → cond b (Some first) (find test others) ≡ Some x → P x
    by true rest is = let same : first ≡ x = cc in subst P same (All-head P first others all)
    by false rest is = rest is

-- and so is the last one, behind one that may come before
last_holds : {X : Type 0} (P : X → Type 0) (xs : List X) (first : Option X) (x : X) → ((y : X) → first ≡ Some y → P y)
    → All P xs → last_or first xs ≡ Some x → P x
last_holds P [] first x before all is = before x is
last_holds P (next ∷ others) first x before all is =
    last_holds P others (Some next) x (λ y same. let e : next ≡ y = cc in subst P e (All-head P next others all))
    (All-tail P next others all) is

-- an instance of that number is one of these
abbrev pub HasNumber : List Instance → ℕ → Type 0
HasNumber instances number = (i : Instance) × Contains instances i × (i.number ≡ number)

-- the root is of that component
abbrev pub HasRoot : Component → List Instance → Type 0
HasRoot component instances = (root : Instance) × (root_of instances ≡ Some root) × (root.component ≡ component)

-- those that a test keeps pass it
pub kept_pass : {X : Type 0} (P Q : X → Type 0) (keeps : X → Bool) (xs : List X)
    → ((x : X) → P x → keeps x ≡ true → Q x) → All P xs → All Q (filter keeps xs)
kept_pass P Q keeps xs follows all =
    All-weaker (λ x. P x × (keeps x ≡ true)) Q (λ x h. follows x h.0 h.1) (filter keeps xs)
    (λ k d lt. (All-filter keeps P xs all k d lt, filter_passes keeps xs k d lt))

-- tasks with those instances alone that pass a test
pub tasks_kept : (Q R : Instance → Type 0) (keeps : Instance → Bool) (tasks : List Task)
    → ((i : Instance) → Q i → keeps i ≡ true → R i) → OfInstances Q tasks
    → OfInstances R (tasks_keeping keeps tasks)
tasks_kept Q R keeps tasks follows all =
    All-filter (λ (task : Task). not (is_empty task.instances)) (λ (task : Task). All R task.instances)
    (map (keeping keeps) tasks)
    (All-map (λ (task : Task). All R task.instances) (keeping keeps) tasks
    (All-weaker (λ (task : Task). All Q task.instances) (λ (task : Task). All R (filter keeps task.instances))
    (λ task each. kept_pass Q R keeps task.instances follows each) tasks all))

-- what follows of each instance
pub tasks_follow : (Q R : Instance → Type 0) (tasks : List Task) → ((i : Instance) → Q i → R i) → OfInstances Q tasks
    → OfInstances R tasks
tasks_follow Q R tasks follows all =
    All-weaker (λ (task : Task). All Q task.instances) (λ (task : Task). All R task.instances)
    (λ task each. All-weaker Q R follows task.instances each) tasks all

-- the plan makes an instance
abbrev pub Makes : Plan → Type 0
Makes (NewTask single) = Unit {0}
Makes (FreshOn task kept) = Unit {0}
Makes (NewIntentTo task kept number) = ⊥
Makes (FrontOf task) = ⊥

-- no number is given back, and one that is made is given
pub next_keeps : (all : Tasks) (start : StartCall) (plan : Plan) → all.next_instance ≤
    (carried_out all start plan).1.next_instance
next_keeps all start (NewTask single) = omega arith
next_keeps all start (FreshOn task kept) = omega arith
next_keeps all start (NewIntentTo task kept number) = omega arith
next_keeps all start (FrontOf task) = omega arith

pub next_makes : (all : Tasks) (start : StartCall) (plan : Plan) → Makes plan
    → all.next_instance < (carried_out all start plan).1.next_instance
next_makes all start (NewTask single) makes = omega arith
next_makes all start (FreshOn task kept) makes = omega arith
next_makes all start (NewIntentTo task kept number) makes = absurd makes
next_makes all start (FrontOf task) makes = absurd makes

module _ (Q : Instance → Type 0) (of : ℕ → Component) (named : (i : Instance) → Q i → i.component ≡ of i.number)
    (start : StartCall) where
  -- a plan of instances of which this holds, where a new intent is for an instance of the component that is there, and
  -- a
  -- task that comes to the front has the component as its root
  abbrev pub IsPlanOf : Plan → Type 0
  IsPlanOf (NewTask single) = Unit {0}
  IsPlanOf (FreshOn task kept) = All Q kept
  IsPlanOf (NewIntentTo task kept number) = All Q kept × (of number ≡ start.target) × HasNumber kept number
  IsPlanOf (FrontOf task) = All Q task.instances × HasRoot start.target task.instances

  -- what may be no plan
  abbrev IfPlan : Option Plan → Type 0
  IfPlan None = Unit {0}
  IfPlan (Some plan) = IsPlanOf plan

  -- a task, if there is one, has such instances
  abbrev IfTask : Option Task → Type 0
  IfTask None = Unit {0}
  IfTask (Some task) = All Q task.instances

  -- an instance of the component
  is_target : (i : Instance) → Q i → is_of start.target i ≡ true → of i.number ≡ start.target
  is_target i one is = sym (named i one) ∙ sym (same_component start.target i.component is)

  -- the first of two plans, a plan where a condition holds, and a plan or a fresh instance
  or_planned : (plan other : Option Plan) → IfPlan plan → IfPlan other → IfPlan (or_other plan other)
  or_planned None other first second = second
  or_planned (Some plan) other first second = first

  where_planned : (test : Bool) (plan : Plan) → (test ≡ true → IsPlanOf plan) → IfPlan (plan_where test plan)
  where_planned true plan planned = planned refl
  where_planned false plan planned = tt

  fresh_planned : (plan : Option Plan) (task : Task) → All Q task.instances → IfPlan plan
      → IsPlanOf (or_fresh plan task)
  fresh_planned None task each planned = each
  fresh_planned (Some plan) task each planned = planned

  -- a task that is found
  found_task : (test : Task → Bool) (tasks : List Task) → OfInstances Q tasks → (found : Option Task) → find test tasks
      ≡ found → IfTask found
  found_task test tasks all None is = tt
  found_task test tasks all (Some task) is = found_holds (λ (t : Task). All Q t.instances) test tasks task all is

  source_found : (tasks : List Task) (source : Option ℕ) → OfInstances Q tasks → IfTask (source_task tasks source)
  source_found tasks None all = tt
  source_found tasks (Some number) all = found_task (λ (task : Task). list_any (is_number number) task.instances) tasks
      all _ refl

  -- the topmost instance of the component
  topmost_is : (task : Task) (i : Instance) → All Q task.instances → topmost start.target task ≡ Some i → Q i
      × (of i.number ≡ start.target)
  topmost_is task i each is =
      let one = found_holds Q (is_of start.target) (reverse task.instances) i
      (All-permutation Q task.instances (reverse task.instances) (IsPermutation-reverse task.instances) each) is in
      (one, is_target i one (found_passes (is_of start.target) (reverse task.instances) i is))

  topmost_in : (task : Task) (i : Instance) → topmost start.target task ≡ Some i → HasNumber task.instances i.number
  topmost_in task i is = (
    i,
    found_holds (Contains task.instances) (is_of start.target) (reverse task.instances) i
        (All-permutation (Contains task.instances) task.instances (reverse task.instances)
        (IsPermutation-reverse task.instances) (All-contains_itself task.instances)) is,
    refl,
  )

  -- an instance behind others
  last_in : (others : List Instance) (i : Instance) → HasNumber (others ++ i ∷ []) i.number
  last_in others i = (i, Contains-append_right others (i ∷ []) i (0, omega arith, refl), refl)

  -- the root
  root_is : (instances : List Instance) → is_maybe_of start.target (root_of instances) ≡ true
      → HasRoot start.target instances
  root_is [] is = absurd cc
  root_is (root ∷ others) is = (root, refl, sym (same_component start.target root.component is))

  -- a start in the mode singleInstance
  single_planned : (tasks : List Task) → OfInstances Q tasks → IsPlanOf (placed_single start tasks)
  single_planned tasks all = by (task_with start.target tasks) (found_task
      (λ (task : Task). list_any (is_of start.target) task.instances) tasks all _ refl)
    where
      to : (task : Task) (found : Option Instance) → All Q task.instances → topmost start.target task ≡ found
          → IsPlanOf (or_new_task (renewed_in task found) true)
      to task None each is = tt
      to task (Some i) each is = (each, (topmost_is task i each is).1, topmost_in task i is)

      by : (found : Option Task) → IfTask found → IsPlanOf (or_new_task (renewed start.target found) true)
      by None each = tt
      by (Some task) each = to task (topmost start.target task) each refl

  -- a start in the mode singleInstancePerTask
  per_task_planned : (tasks : List Task) → OfInstances Q tasks → IsPlanOf (placed_per_task start tasks)
  per_task_planned tasks all =
      either_holds IsPlanOf start.flags.multiple_task (NewTask false) _ tt (from (task_rooted start.target tasks) refl)
    where
      rooted_by : Task → Bool
      rooted_by task = is_maybe_of start.target (root_of task.instances)

      to : (task : Task) (instances : List Instance) → All Q instances → is_maybe_of start.target (root_of instances)
          ≡ true → IsPlanOf (or_new_task (to_root task (root_of instances)) false)
      to task [] each is = tt
      to task (root ∷ others) each is =
          let one = All-head Q root others each in
          (All-cons Q root [] one (All-nil Q), is_target root one is, last_in [] root)

      from : (found : Option Task) → task_rooted start.target tasks ≡ found
          → IsPlanOf (or_new_task (rooted found) false)
      from None is = tt
      from (Some task) is =
          to task task.instances (found_holds (λ (t : Task). All Q t.instances) rooted_by tasks task all is)
          (found_passes rooted_by tasks task is)

  -- clearing, where an instance is found
  cleared_planned : (task : Task) (found : Option Instance) → All Q task.instances → topmost start.target task ≡ found
      → IfPlan (clearing_top start task found)
  cleared_planned task None each is = tt
  cleared_planned task (Some i) each is =
      where_planned (is_mode SingleTask start.mode || start.flags.clear_top) (cleared_to start task i)
      (λ test. either_holds IsPlanOf (is_mode Standard start.mode && not start.flags.single_top) (FreshOn task kept)
      (NewIntentTo task (kept ++ i ∷ []) i.number) left
      (All-push Q kept i left one.0, one.1, last_in kept i))
    where
      kept : List Instance
      kept = below i.number task.instances

      left : All Q kept
      left = All-take Q _ task.instances each

      one : Q i × (of i.number ≡ start.target)
      one = topmost_is task i each is

  -- moving an instance to the top
  reordered_planned : (wanted : Bool) (task : Task) (found : Option Instance) → All Q task.instances
      → topmost start.target task ≡ found → IfPlan (reordering start wanted task found)
  reordered_planned wanted task None each is = tt
  reordered_planned wanted task (Some i) each is =
      let one = topmost_is task i each is in
      where_planned ((not wanted && start.flags.reorder_to_front) && not start.flags.clear_top) _
      (λ test. (
        All-push Q (besides i.number task.instances) i (All-filter
            (λ (j : Instance). not (j.number == i.number)) Q task.instances each) one.0,
        one.1,
        last_in
            (besides i.number task.instances) i,
      ))

  -- a new intent to the top
  on_top_planned : (task : Task) (found : Option Instance) → All Q task.instances → top_of task ≡ found
      → IfPlan (on_top start task found)
  on_top_planned task None each is = tt
  on_top_planned task (Some top) each is =
      where_planned (is_of start.target top && (is_mode SingleTop start.mode || start.flags.single_top))
      (NewIntentTo task task.instances top.number)
      (λ test. (
        each,
        is_target top (last_holds Q task.instances None top (λ j none. absurd cc) each is)
            (both (is_of start.target top) _ test).0,
        (
          top,
          last_holds (Contains task.instances) task.instances None top (λ j none. absurd cc)
              (All-contains_itself task.instances) is,
          refl,
        ),
      ))

  -- a start in a task, if there is one
  within_planned : (wanted : Bool) (found : Option Task) → IfTask found → IsPlanOf (placed_in_maybe start wanted found)
  within_planned wanted None each = tt
  within_planned wanted (Some task) each =
      fresh_planned _ task each
      (or_planned (clearing_task start wanted task) _ (where_planned _ (FreshOn task []) (λ test. All-nil Q))
      (or_planned (clearing_top start task (topmost start.target task)) _
      (cleared_planned task (topmost start.target task) each refl)
      (or_planned (fronting start wanted task) _ (where_planned _ (FrontOf task)
      (λ test. (each, root_is task.instances (both wanted _ test).1)))
      (or_planned (reordering start wanted task (topmost start.target task)) _
      (reordered_planned wanted task (topmost start.target task) each refl)
      (on_top_planned task (top_of task) each refl)))))

  -- a start in another mode
  ordinary_planned : (tasks : List Task) (wanted : Bool) (source : Option Task) → OfInstances Q tasks → IfTask source
      → IsPlanOf (placed_ordinary start tasks wanted source)
  ordinary_planned tasks wanted source all here =
      either_holds IsPlanOf (is_multiple start wanted) (NewTask false) _ tt (within_planned wanted _ (either wanted))
    where
      either : (b : Bool) → IfTask (cond b (task_of_affinity start.affinity tasks) source)
      either true = found_task (λ (task : Task). (not task.single && not (is_empty start.affinity)) && is_same
          task.affinity start.affinity) tasks all _ refl
      either false = here

  -- the plan of a start
  pub planned : (all : Tasks) → OfInstances Q all.tasks → IsPlanOf (plan_for all start)
  planned all each =
      either_holds IsPlanOf (is_mode SingleInstance start.mode) (placed_single start all.tasks) _
      (single_planned all.tasks each)
      (either_holds IsPlanOf (is_mode SingleInstancePerTask start.mode) (placed_per_task start all.tasks) _
      (per_task_planned all.tasks each)
      (ordinary_planned all.tasks (wants_new_task start source) source each
      (source_found all.tasks start.source each)))
    where
      source : Option Task
      source = source_task all.tasks start.source

  module _ (R : Instance → Type 0) (all : Tasks) (keeps : (i : Instance) → Q i → R i)
      (gives : (i : Instance) → Q i → i.component ≡ start.target → R (record i { intent = start.intent })) where
    -- a new intent
    intent_of : (number : ℕ) (instances : List Instance) → of number ≡ start.target → All Q instances
        → All R (with_intent number start.intent instances)
    intent_of number instances is each =
        All-map R (λ (i : Instance). cond (i.number == number) (record i { intent = start.intent }) i) instances
        (All-weaker Q (λ (i : Instance). R (cond (i.number == number) (record i { intent = start.intent }) i))
        (λ i one. by i one (eqb i.number number) refl) instances each)
      where
        by : (i : Instance) → Q i → (b : Bool) → eqb i.number number ≡ b
            → R (cond b (record i { intent = start.intent }) i)
        by i one true same = gives i one (named i one ∙ ap of (eqb-true i.number number same) ∙ is)
        by i one false same = keeps i one

    -- a task in front of the others
    front_of : (task : Task) (instances : List Instance) → All R instances → OfInstances Q all.tasks
        → OfInstances R (in_front task instances all.tasks)
    front_of task instances front each =
        All-cons (λ (t : Task). All R t.instances) (record task { instances = instances })
        (filter (λ (other : Task). not (other.number == task.number)) all.tasks) front
        (All-filter (λ (other : Task). not (other.number == task.number)) (λ (t : Task). All R t.instances) all.tasks
        (tasks_follow Q R all.tasks keeps each))

    -- a plan that is carried out
    carried_of : (plan : Plan) → (Makes plan → R (fresh all.next_instance start)) → IsPlanOf plan
        → OfInstances Q all.tasks → OfInstances R (carried_out all start plan).1.tasks
    carried_of (NewTask single) makes is each =
        All-cons (λ (t : Task). All R t.instances) (new_task all.next_task all.next_instance start single) all.tasks
        (All-cons R (fresh all.next_instance start) [] (makes tt) (All-nil R)) (tasks_follow Q R all.tasks keeps each)
    carried_of (FreshOn task kept) makes is each =
        front_of task (kept ++ fresh all.next_instance start ∷ [])
        (All-push R kept (fresh all.next_instance start) (All-weaker Q R keeps kept is) (makes tt)) each
    carried_of (NewIntentTo task kept number) makes is each = front_of task (with_intent number start.intent kept)
        (intent_of number kept is.1 is.0) each
    carried_of (FrontOf task) makes is each = front_of task task.instances (All-weaker Q R keeps task.instances is.0)
        each

    -- a start that is placed
    pub placed_of : (Makes (plan_for all start) → R (fresh all.next_instance start)) → OfInstances Q all.tasks
        → OfInstances R (carried_out all start (plan_for all start)).1.tasks
    placed_of makes each = carried_of (plan_for all start) makes (planned all each) each
