-- Each instance that an entry makes, and each intent that it gives to one, is by a start that the gate admitted; and so
-- is
-- each start that it is answered to have landed.
use Rattle.std.proofs.Common.{◌≡◌, ℕ, Bool, true, cond, List, [], ◌∷◌, ◌++◌, map, refl, sym, ap, ◌∙◌, subst, ◌⊎◌, inl, inr, arith}
use Rattle.std.specs.Prelude.{All, Option, Some, Ok, ◌==◌}
use Rattle.std.specs.List.{Contains}
use Rattle.std.proofs.lemmas.Bool.{eq-eqb}
use Rattle.std.proofs.lemmas.List.Elements.{All-nil, All-cons, All-head, All-tail, All-contains, All-contains_itself, Contains-append_right, Contains-get_or}
use Rattle.am_types.specs.declared.intent.Intent.{Intent}
use Rattle.am_types.specs.declared.intent.Component.{Component}
use Rattle.am_types.specs.declared.manifest.Decl.{Decl}
use Rattle.am_types.specs.declared.manifest.Kind.TheVariants as kinds
use Rattle.am_types.specs.declared.history.Entry.{Entry}
use Rattle.am_types.specs.declared.task.StartCall.{StartCall}
use Rattle.am_types.specs.declared.task.Landed.{Landed}
use Rattle.am_model.specs.Gates.{verdict, Admit}
use Rattle.am_model.specs.Receivers.{declared}
use Rattle.am_model.specs.Tasks.{Instance, Task, Tasks, tasks_keeping}
use Rattle.am_model.specs.Placement.{Plan, NewTask, FreshOn, NewIntentTo, FrontOf, root_of, fresh, new_task, with_intent, carried_out, place}
use Rattle.am_model.proofs.PlacementLaws.{plan_for, place_carries_out}
use Rattle.am_history.specs.State.{State}
use Rattle.am_history.specs.Activities.{start_call}
use Rattle.am_history.specs.Steps.{after_due, step}
use Rattle.am_history.specs.History.{replay}
use Rattle.am_history.specs.Desks.{Origin, opening_of}
use Rattle.am_history.proofs.Places.{replay_more}
use Rattle.am_laws.specs.Access.{Starts, deed_of, IsStarted, OfInstances}
use Rattle.am_laws_access.specs.Intents.{IsAmong, IsGivenBy}
use Rattle.am_laws_access.specs.Adds.{IsLanding}
use Rattle.am_laws.proofs.Requests.{Steps, step_leaves, task_steps}
use Rattle.am_laws_access.proofs.Owners.{uid_named, declared_named}
use Rattle.am_laws_access.proofs.Placed.{IsPlanOf, planned, tasks_kept, placed_of}
use Rattle.am_laws_access.proofs.KnownComponents.{KnownInstance, Known}
use Rattle.am_laws_access.proofs.AccessOfComponents.{all_known}

-- each instance is among those that there are
all_among : (tasks : List Task) → OfInstances (IsAmong tasks) tasks
all_among tasks = λ k d below i e low. record {
  task = _;
  one = Contains-get_or tasks k d below;
  instance =
      Contains-get_or _ i e low;
}

-- what holds of what a function makes of some elements holds so of each
of_each : {X Y : Type 0} (P : Y → Type 0) (f : X → Y) (xs : List X) → All P (map f xs) → All (λ x. P (f x)) xs
of_each P f [] all = All-nil (λ x. P (f x))
of_each P f (x ∷ xs) all = All-cons (λ x. P (f x)) x xs (All-head P (f x) (map f xs) all)
    (of_each P f xs (All-tail P (f x) (map f xs) all))

-- the instance of a number has its new intent
renewed_in : (number : ℕ) (intent : Intent) (instances : List Instance) (i : Instance) → Contains instances i → i.number
    ≡ number
    → Contains (with_intent number intent instances) (record i { intent = intent })
renewed_in number intent instances i at same =
    subst (λ (b : Bool). Contains (with_intent number intent instances) (cond b (record i { intent = intent }) i))
    (eq-eqb i.number number same)
    (All-contains (λ (j : Instance). Contains (with_intent number intent instances) (given j)) instances i
    (of_each (Contains (with_intent number intent instances)) given instances
    (All-contains_itself (with_intent number intent instances))) at)
  where
    given : Instance → Instance
    given j = cond (j.number == number) (record j { intent = intent }) j

-- what holds of all instances holds of the root
of_root : (P : Instance → Type 0) (instances : List Instance) (root : Instance) → All P instances → root_of instances
    ≡ Some root → P root
of_root P [] root all is = absurd cc
of_root P (first ∷ others) root all is = let same : first ≡ root = cc in subst P same (All-head P first others all)

module _ (opening : State) (h : List Entry) (entry : Entry) (known : Known opening h (replay opening h)) where
  abbrev due : State
  due = after_due (replay opening h) entry.now

  -- the instance was there before, or the entry gave it its intent
  abbrev N : Instance → Type 0
  N i = IsAmong due.tasks.tasks i ⊎ IsGivenBy due entry i

  abbrev Holds : State → Type 0
  Holds s = OfInstances N s.tasks.tasks

  here : Holds due
  here = λ k d below i e low. inl (all_among due.tasks.tasks k d below i e low)

  -- some instances end
  kept_on : (keeps : Instance → Bool) → OfInstances N (tasks_keeping keeps due.tasks.tasks)
  kept_on keeps = tasks_kept N N keeps due.tasks.tasks (λ i one test. one) here

  -- what is known of an instance
  abbrev K : Instance → Type 0
  K i = KnownInstance opening h due.board.packages known.of due.tasks.next_instance i

  module _ (uid : ℕ) (intent : Intent) (source : Option ℕ) (component : Component) (found : ℕ × Decl)
      (kept : entry.kept ≡ true)
      (did : deed_of due entry.uid entry.request ≡ Some (Starts uid intent))
      (is : declared due.board.packages kinds.Activity component ≡ Some found)
      (admits : verdict due.board.grants uid found.0 found.1.exported found.1.permission ≡ Admit) where
    abbrev pub call : StartCall
    call = start_call uid intent source component found

    -- the component was started
    started_by : (target : Component) (owner : ℕ) → target ≡ component → owner ≡ found.0
        → IsStarted target owner intent due (Starts uid intent)
    started_by target owner same own =
        subst (λ (u : ℕ). IsStarted target u intent due (Starts uid intent)) (sym own)
        (subst (λ (c : Component). IsStarted c found.0 intent due (Starts uid intent)) (sym same)
        (record { caller = uid; is = refl; decl = found.1; declared = is; admitted = admits }))

    -- so an instance of it was given its intent
    given_by : (number : ℕ) (target : Component) (owner : ℕ) → target ≡ component → owner ≡ found.0
        → IsGivenBy due entry (record { number = number; component = target; owner = owner; intent = intent })
    given_by number target owner same own = record {
      kept = kept;
      deed = Starts uid intent;
      did = did;
      holds =
          started_by target owner same own;
    }

    -- an instance of it is of its package
    owned_by : (i : Instance) → K i → i.component ≡ component → i.owner ≡ found.0
    owned_by i one same =
        let named : uid_named due.board.packages i.component.«package» ≡ Some found.0 =
        subst (λ (c : Component). uid_named due.board.packages c.«package» ≡ Some found.0) (sym same)
        (declared_named due.board.packages kinds.Activity component found is) in
        let e : Some i.owner ≡ Some found.0 = sym one.owned ∙ named in
        cc

    -- an activity is started
    started_on : (landed : Landed × Tasks) → place due.tasks call ≡ Ok landed → OfInstances N landed.1.tasks
    started_on landed placed =
        subst (λ (r : Landed × Tasks). OfInstances N r.1.tasks) (sym (place_carries_out due.tasks call landed placed))
        (placed_of Q known.of (λ i one. one.0.named) call N due.tasks (λ i one. inl one.1)
        (λ i one same. inr (given_by i.number i.component i.owner same (owned_by i one.0 same)))
        (λ plan. inr (given_by due.tasks.next_instance component found.0 refl refl))
        (λ k d below i e low. (known.instances k d below i e low, all_among due.tasks.tasks k d below i e low)))
      where
        Q : Instance → Type 0
        Q i = K i × IsAmong due.tasks.tasks i

    -- where a plan lands
    plan_lands : (after : State) (plan : Plan) → IsPlanOf K known.of (λ i one. one.named) call plan → after.tasks
        ≡ (carried_out due.tasks call plan).1
        → IsLanding due entry after (carried_out due.tasks call plan).0
    plan_lands after (NewTask single) fits left = record {
      front = new_task due.tasks.next_task due.tasks.next_instance call single;
      behind = due.tasks.tasks;
      tasks = ap (λ (all : Tasks). all.tasks) left;
      task = refl;
      reached = (
        fresh due.tasks.next_instance call,
        (0, omega arith, refl),
        refl,
        given_by due.tasks.next_instance
            component found.0 refl refl,
      );
    }
    plan_lands after (FreshOn task others) fits left = record {
      front = record task { instances = others ++ fresh due.tasks.next_instance call ∷ [] };
      behind = _;
      tasks = ap (λ (all : Tasks). all.tasks) left;
      task = refl;
      reached = (
        fresh due.tasks.next_instance call,
        Contains-append_right others (fresh due.tasks.next_instance call ∷ []) (fresh due.tasks.next_instance call)
            (0, omega arith, refl),
        refl,
        given_by due.tasks.next_instance component found.0 refl refl,
      );
    }
    plan_lands after (NewIntentTo task others number) fits left =
        let i = fits.2.0 in
        let one : K i = All-contains K others i fits.0 fits.2.1 in
        let same : i.component ≡ component = one.named ∙ ap known.of fits.2.2 ∙ fits.1 in
        record {
          front = record task { instances = with_intent number intent others };
          behind = _;
          tasks = ap (λ (all : Tasks). all.tasks) left;
          task = refl;
          reached = (
            record i { intent = intent },
            renewed_in number intent others i fits.2.1 fits.2.2,
            fits.2.2,
            given_by i.number i.component i.owner same (owned_by i one same),
          );
        }
    plan_lands after (FrontOf task) fits left =
        let root = fits.1.0 in
        let one : K root = of_root K task.instances root fits.0 fits.1.1 in
        record {
          front = task;
          behind = _;
          tasks = ap (λ (all : Tasks). all.tasks) left;
          task = refl;
          reached = (
            root,
            fits.1.1,
            record {
              kept = kept;
              deed = Starts uid intent;
              did = did;
              holds = (intent, started_by root.component root.owner fits.1.2 (owned_by root one fits.1.2));
            },
          );
        }

    -- where a start lands
    pub start_lands : (landed : Landed × Tasks) → place due.tasks call ≡ Ok landed → (after : State) → after.tasks
        ≡ landed.1 → IsLanding due entry after landed.0
    start_lands landed placed after left =
        let carried = place_carries_out due.tasks call landed placed in
        subst (λ (r : Landed × Tasks). IsLanding due entry after r.0) (sym carried)
        (plan_lands after (plan_for due.tasks call) (planned K known.of (λ i one. one.named) call due.tasks
        known.instances)
        (left ∙ ap (λ (r : Landed × Tasks). r.1) carried))

  steps : entry.kept ≡ true → Steps Holds due entry.uid entry.request
  steps kept =
      task_steps (λ (tasks : Tasks) (moment : ℕ). OfInstances N tasks.tasks) due entry.uid entry.request here
      (λ uid intent source component found landed did is admits placed. started_on uid intent source component found
      kept did is admits landed placed) kept_on
      (λ by fits. here)

  pub given : Holds (step (replay opening h) h entry).1
  given = step_leaves Holds (replay opening h) h entry here steps

-- after every history
pub intents_are_admitted : (origin : Origin) (history : List Entry) (entry : Entry)
    → OfInstances (λ i. IsAmong (replay (opening_of origin) history).tasks.tasks i ⊎ IsGivenBy
    (after_due (replay (opening_of origin) history) entry.now) entry i)
    (replay (opening_of origin) (history ++ entry ∷ [])).tasks.tasks
intents_are_admitted origin history entry =
    subst (λ (s : State). OfInstances (N (opening_of origin) history entry (all_known origin history)) s.tasks.tasks)
    (sym (replay_more (opening_of origin) history entry))
    (given (opening_of origin) history entry (all_known origin history))
