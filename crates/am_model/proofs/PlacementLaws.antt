-- Laws of placements: what stays where it was, and which numbers are given.
use Rattle.std.proofs.Common.{◌≡◌, ℕ, ◌+◌, Bool, true, false, not, cond, List, [], ◌∷◌, ◌++◌, map, take, refl, sym, ap, ◌∙◌, subst}
use Rattle.std.specs.Prelude.{Option, Some, None, Ok, Err, ◌==◌}
use Rattle.std.specs.List.{filter}
use Rattle.std.proofs.lemmas.Bool.{eq-eqb}
use Rattle.std.proofs.lemmas.List.{map-append}
use Rattle.am_types.specs.declared.intent.Intent.{Intent}
use Rattle.am_types.specs.declared.task.StartCall.{StartCall}
use Rattle.am_types.specs.declared.task.Landed.{Landed}
use Rattle.am_types.specs.declared.task.Placed.{Placed}
use Rattle.am_types.specs.declared.task.Placed.TheVariants as how
use Rattle.am_types.specs.declared.task.PlaceFault.{PlaceFault}
use Rattle.am_types.specs.declared.task.PlaceFault.TheVariants.{NotYours, NeedsNewTask}
use Rattle.am_model.specs.Tasks.{Instance, Task, Tasks, owner, may_end}
use Rattle.am_model.proofs.Lists.{left_twice}
use Rattle.am_model.specs.Placement.{Plan, NewTask, FreshOn, NewIntentTo, FrontOf, besides, in_front, with_intent, new_task, fresh, carried_out, too_full, placed, place_as, plan_of, placed_from, placed_by, source_task, place}

-- the tasks but for the one of that number
abbrev pub other_tasks : ℕ → List Task → List Task
other_tasks number tasks = filter (λ (task : Task). not (task.number == number)) tasks

-- the other tasks of the other tasks are those
same_again : (number : ℕ) (tasks : List Task) → other_tasks number (other_tasks number tasks) ≡ other_tasks number tasks
same_again number tasks = left_twice (λ (task : Task). not (task.number == number)) tasks

-- the task of that number isn't among the others
without_itself : (task : Task) (tasks : List Task) → other_tasks task.number (task ∷ tasks)
    ≡ other_tasks task.number tasks
without_itself task tasks = rw (eq-eqb task.number task.number refl) refl

-- a task that comes to the front leaves the others in their order
front_leaves_others : (task : Task) (instances : List Instance) (tasks : List Task)
    → other_tasks task.number (in_front task instances tasks) ≡ other_tasks task.number tasks
front_leaves_others task instances tasks = without_itself (record task { instances = instances })
    (other_tasks task.number tasks) ∙ same_again task.number tasks

-- in every placement the other tasks keep their instances and their order
pub others_keep_order : (all : Tasks) (start : StartCall) (plan : Plan)
    → other_tasks (carried_out all start plan).0.task (carried_out all start plan).1.tasks
    ≡ other_tasks (carried_out all start plan).0.task all.tasks
others_keep_order all start (NewTask single) = without_itself (new_task all.next_task all.next_instance start single)
    all.tasks
others_keep_order all start (FreshOn task kept) = front_leaves_others task _ all.tasks
others_keep_order all start (NewIntentTo task kept number) = front_leaves_others task _ all.tasks
others_keep_order all start (FrontOf task) = front_leaves_others task _ all.tasks

-- the task in which a start landed is in front
pub landed_in_front : (all : Tasks) (start : StartCall) (plan : Plan)
    → map (λ (task : Task). task.number) (take 1 (carried_out all start plan).1.tasks)
    ≡ (carried_out all start plan).0.task ∷ []
landed_in_front all start (NewTask single) = refl
landed_in_front all start (FreshOn task kept) = refl
landed_in_front all start (NewIntentTo task kept number) = refl
landed_in_front all start (FrontOf task) = refl

-- the numbers of the instances of a task
abbrev pub numbers : List Instance → List ℕ
numbers instances = map (λ (i : Instance). i.number) instances

-- the instances of the front task
abbrev pub front_instances : List Task → List Instance
front_instances [] = []
front_instances (front ∷ others) = front.instances

-- a new intent leaves the numbers of the instances
pub intent_keeps_numbers : (number : ℕ) (intent : Intent) (instances : List Instance)
    → numbers (with_intent number intent instances) ≡ numbers instances
intent_keeps_numbers number intent [] = refl
intent_keeps_numbers number intent (first ∷ others) = by (first.number == number)
    (intent_keeps_numbers number intent others)
  where
    by : (b : Bool) → numbers (with_intent number intent others) ≡ numbers others
        → (cond b (record first { intent = intent }) first).number ∷ numbers (with_intent number intent others)
        ≡ first.number ∷ numbers others
    by true rest = ap (λ l. first.number ∷ l) rest
    by false rest = ap (λ l. first.number ∷ l) rest

-- and all that is said of the others
pub intent_keeps_others : (number : ℕ) (intent : Intent) (instances : List Instance)
    → besides number (with_intent number intent instances) ≡ besides number instances
intent_keeps_others number intent [] = refl
intent_keeps_others number intent (first ∷ others) = by (first.number == number) refl
    (intent_keeps_others number intent others)
  where
    by : (b : Bool) → (first.number == number) ≡ b → besides number (with_intent number intent others)
        ≡ besides number others
        → besides number (cond b (record first { intent = intent }) first ∷ with_intent number intent others)
        ≡ cond (not b) (first ∷ besides number others) (besides number others)
    by true is rest = rw is rest
    by false is rest = rw is (ap (λ l. first ∷ l) rest)

-- a fresh instance on top of a task leaves those below
pub fresh_keeps_all : (all : Tasks) (start : StartCall) (task : Task)
    → front_instances (carried_out all start (FreshOn task task.instances)).1.tasks ≡ task.instances
    ++ fresh all.next_instance start ∷ []
fresh_keeps_all all start task = refl

-- a new intent to an instance of a task that is kept leaves all instances where they stand
pub intent_keeps_all : (all : Tasks) (start : StartCall) (task : Task) (number : ℕ)
    → numbers (front_instances (carried_out all start (NewIntentTo task task.instances number)).1.tasks)
    ≡ numbers task.instances
intent_keeps_all all start task number = intent_keeps_numbers number start.intent task.instances

-- a task that is only brought to the front keeps its instances
pub fronting_keeps_all : (all : Tasks) (start : StartCall) (task : Task)
    → front_instances (carried_out all start (FrontOf task)).1.tasks ≡ task.instances
fronting_keeps_all all start task = refl

-- leaving an instance out twice leaves it out once
besides_again : (number : ℕ) (instances : List Instance) → besides number (besides number instances)
    ≡ besides number instances
besides_again number instances = left_twice (λ (i : Instance). not (i.number == number)) instances

-- without the instance that was put on top what is left is what was left of the rest
besides_moved : (instance : Instance) (instances : List Instance) → besides instance.number (instances ++ instance ∷ [])
    ≡ besides instance.number instances
besides_moved instance [] = rw (eq-eqb instance.number instance.number refl) refl
besides_moved instance (first ∷ others) = by (first.number == instance.number) (besides_moved instance others)
  where
    by : (b : Bool) → besides instance.number (others ++ instance ∷ []) ≡ besides instance.number others
        → cond (not b) (first ∷ besides instance.number (others ++ instance ∷ []))
        (besides instance.number (others ++ instance ∷ [])) ≡ cond (not b) (first ∷ besides instance.number others)
        (besides instance.number others)
    by true rest = rest
    by false rest = ap (λ l. first ∷ l) rest

-- an instance that is moved to the top leaves the others in their order
pub moving_keeps_others : (all : Tasks) (start : StartCall) (task : Task) (instance : Instance)
    → besides instance.number (front_instances (carried_out all start
    (NewIntentTo task (besides instance.number task.instances ++ instance ∷ []) instance.number)).1.tasks)
    ≡ besides instance.number task.instances
moving_keeps_others all start task instance =
    intent_keeps_others instance.number start.intent (besides instance.number task.instances ++ instance ∷ [])
    ∙ besides_moved instance (besides instance.number task.instances)
    ∙ besides_again instance.number task.instances

-- and stands on top of them
pub moved_to_top : (all : Tasks) (start : StartCall) (task : Task) (instance : Instance)
    → numbers (front_instances (carried_out all start (NewIntentTo task
    (besides instance.number task.instances ++ instance ∷ []) instance.number)).1.tasks)
    ≡ numbers (besides instance.number task.instances) ++ instance.number ∷ []
moved_to_top all start task instance =
    intent_keeps_numbers instance.number start.intent (besides instance.number task.instances ++ instance ∷ [])
    ∙ map-append (λ (i : Instance). i.number) (besides instance.number task.instances) (instance ∷ [])

-- a start that made an instance
abbrev pub is_fresh : Placed → Bool
is_fresh how.Fresh = true
is_fresh how.NewIntent = false
is_fresh how.Fronted = false

-- a fresh instance has the next number
pub instance_is_next : (all : Tasks) (start : StartCall) (plan : Plan) → is_fresh (carried_out all start plan).0.how
    ≡ true
    → ((carried_out all start plan).0.instance ≡ all.next_instance)
    × ((carried_out all start plan).1.next_instance ≡ all.next_instance + 1)
instance_is_next all start (NewTask single) made = (refl, refl)
instance_is_next all start (FreshOn task kept) made = (refl, refl)
instance_is_next all start (NewIntentTo task kept number) made = cc
instance_is_next all start (FrontOf task) made = cc

-- no other start moves the next number
pub no_instance_is_made : (all : Tasks) (start : StartCall) (plan : Plan) → is_fresh (carried_out all start plan).0.how
    ≡ false
    → (carried_out all start plan).1.next_instance ≡ all.next_instance
no_instance_is_made all start (NewTask single) made = cc
no_instance_is_made all start (FreshOn task kept) made = cc
no_instance_is_made all start (NewIntentTo task kept number) made = refl
no_instance_is_made all start (FrontOf task) made = refl

-- a new task has the next number
pub task_is_next : (all : Tasks) (start : StartCall) (single : Bool)
    → ((carried_out all start (NewTask single)).0.task ≡ all.next_task)
    × ((carried_out all start (NewTask single)).1.next_task ≡ all.next_task + 1)
task_is_next all start single = (refl, refl)

-- a plan that isn't refused is carried out
pub as_planned : (all : Tasks) (start : StartCall) (result : Landed × Tasks) (plan : Plan) → place_as all start plan
    ≡ Ok result → result ≡ carried_out all start plan
as_planned all start result plan done = by (too_full all plan) done
  where
    by : (fault : Option PlaceFault) → placed all start plan fault ≡ Ok result → result ≡ carried_out all start plan
    by None done = cc
    by (Some fault) done = cc

-- a start whose test may refuse it
planned_where : (all : Tasks) (start : StartCall) (result : Landed × Tasks) (plan : Plan) (test : Bool)
    (fault : PlaceFault) → cond test (place_as all start plan) (Err fault) ≡ Ok result
    → result ≡ carried_out all start plan
planned_where all start result plan true fault done = as_planned all start result plan done
planned_where all start result plan false fault done = absurd cc

-- the plan of a start
abbrev pub plan_for : Tasks → StartCall → Plan
plan_for all start = plan_of start all.tasks (source_task all.tasks start.source)

-- a start that isn't refused carries out its plan
pub place_carries_out : (all : Tasks) (start : StartCall) (result : Landed × Tasks) → place all start ≡ Ok result
    → result ≡ carried_out all start (plan_for all start)
unfolding place
place_carries_out all start result done = by start.source refl done
  where
    owned_by : (source : Option ℕ) → placed_from all start source ≡ Ok result → result
        ≡ carried_out all start (plan_for all start)
    owned_by None done = absurd cc
    owned_by (Some owned) done = planned_where all start result (plan_for all start) (may_end start.caller owned)
        NotYours done

    by : (source : Option ℕ) → start.source ≡ source → placed_by all start source ≡ Ok result → result
        ≡ carried_out all start (plan_for all start)
    by None is done = rw is (planned_where all start result (plan_of start all.tasks None) start.flags.new_task
        NeedsNewTask done)
    by (Some number) is done = owned_by (owner all number) done

-- so in a start that isn't refused the other tasks keep their instances and their order
pub place_keeps_other_tasks : (all : Tasks) (start : StartCall) (result : Landed × Tasks) → place all start ≡ Ok result
    → other_tasks result.0.task result.1.tasks ≡ other_tasks result.0.task all.tasks
place_keeps_other_tasks all start result done =
    subst (λ (r : Landed × Tasks). other_tasks r.0.task r.1.tasks ≡ other_tasks r.0.task all.tasks)
    (sym (place_carries_out all start result done)) (others_keep_order all start (plan_for all start))

-- the task in which it landed is in front
pub place_lands_in_front : (all : Tasks) (start : StartCall) (result : Landed × Tasks) → place all start ≡ Ok result
    → map (λ (task : Task). task.number) (take 1 result.1.tasks) ≡ result.0.task ∷ []
place_lands_in_front all start result done =
    subst (λ (r : Landed × Tasks). map (λ (task : Task). task.number) (take 1 r.1.tasks) ≡ r.0.task ∷ [])
    (sym (place_carries_out all start result done)) (landed_in_front all start (plan_for all start))

-- and a fresh instance has the next number
pub place_gives_next : (all : Tasks) (start : StartCall) (result : Landed × Tasks) → place all start ≡ Ok result
    → is_fresh result.0.how ≡ true
    → (result.0.instance ≡ all.next_instance) × (result.1.next_instance ≡ all.next_instance + 1)
place_gives_next all start result done made =
    subst (λ (r : Landed × Tasks). is_fresh r.0.how ≡ true → (r.0.instance ≡ all.next_instance)
    × (r.1.next_instance ≡ all.next_instance + 1)) (sym (place_carries_out all start result done))
    (instance_is_next all start (plan_for all start)) made
