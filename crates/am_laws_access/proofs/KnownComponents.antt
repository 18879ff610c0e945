-- Instances and services of which it is known by which entries they were started, and in which packages.
use Rattle.std.proofs.Common.{◌≡◌, ℕ, ◌+◌, ◌<◌, ◌≤◌, Bool, true, false, not, cond, eqb, List, [], ◌∷◌, length, refl, sym, ap, ◌∙◌, subst, arith}
use Rattle.std.specs.Prelude.{All, Option, Some, None, Ok, filter, ◌==◌}
use Rattle.std.proofs.lemmas.Bool.{eqb-true}
use Rattle.std.proofs.lemmas.List.Elements.{All-push, All-map, All-weaker}
use Rattle.am_types.specs.declared.intent.Intent.{Intent}
use Rattle.am_types.specs.declared.intent.Component.{Component}
use Rattle.am_types.specs.declared.device.Package.{Package}
use Rattle.am_types.specs.declared.history.Entry.{Entry}
use Rattle.am_types.specs.declared.task.StartCall.{StartCall}
use Rattle.am_types.specs.declared.task.Landed.{Landed}
use Rattle.am_model.specs.Tasks.{Instance, Tasks, tasks_keeping}
use Rattle.am_model.specs.Tasks as tasks
use Rattle.am_model.specs.Placement.{carried_out, fresh, place}
use Rattle.am_model.proofs.PlacementLaws.{plan_for, place_carries_out}
use Rattle.am_history.specs.State.{State, Service}
use Rattle.am_history.specs.Services.{is_service, running, restarted, with_start}
use Rattle.am_laws.specs.Access.{Deed, Once, IsStarted, IsServed, IsStartedByEntries, OfInstances}
use Rattle.am_laws_access.specs.Starts.{AreStarts, IsStartedEachTime}
use Rattle.am_laws_access.proofs.Owners.{uid_named}
use Rattle.am_laws.proofs.Tests.{unless_true}
use Rattle.am_laws_access.proofs.Placed.{Makes, next_keeps, next_makes, same_component, kept_pass, tasks_kept, tasks_follow, placed_of}

module _ (opening : State) (h : List Entry) where
  -- an instance of a component that its number tells, and of the package of the component's name
  pub record KnownInstance (packages : List Package) (of : ℕ → Component) (next : ℕ) (i : Instance) : Type 0 where
    pub started : IsStartedByEntries opening h i
    pub owned : uid_named packages i.component.«package» ≡ Some i.owner
    pub named : i.component ≡ of i.number
    pub below : i.number < next

  -- a service of the package of its component's name
  pub record KnownService (packages : List Package) (s : Service) : Type 0 where
    pub served : IsStartedEachTime opening h s
    pub owned : uid_named packages s.component.«package» ≡ Some s.owner

  -- all instances and services are known
  pub record AreKnown (packages : List Package) (all : Tasks) (running : List Service) : Type 0 where
    pub of : ℕ → Component
    pub instances : OfInstances (KnownInstance packages of all.next_instance) all.tasks
    pub services : All (KnownService packages) running

  -- a state of which all are known
  abbrev pub Known : State → Type 0
  Known state = AreKnown state.board.packages state.tasks state.services

  -- others are installed, and who was installed still is
  pub known_among : (packages others : List Package) (all : Tasks) (services : List Service)
      → ((name : List ℕ) (uid : ℕ) → uid_named packages name ≡ Some uid → uid_named others name ≡ Some uid)
      → AreKnown packages all services → AreKnown others all services
  known_among packages others all services stays known = record {
    of = known.of;
    instances = tasks_follow (KnownInstance packages known.of all.next_instance)
        (KnownInstance others known.of all.next_instance) all.tasks
        (λ i one. record {
          started = one.started;
          owned = stays i.component.«package» i.owner one.owned;
          named =
              one.named;
          below = one.below;
        }) known.instances;
    services = All-weaker (KnownService packages) (KnownService others)
        (λ s one. record { served = one.served; owned = stays s.component.«package» s.owner one.owned }) services
        known.services;
  }

  -- some instances end
  pub known_kept : (packages : List Package) (all : Tasks) (services : List Service) (keeps : Instance → Bool)
      → AreKnown packages all services
      → AreKnown packages (record all { tasks = tasks_keeping keeps all.tasks }) services
  known_kept packages all services keeps known = record {
    of = known.of;
    instances = tasks_kept (KnownInstance packages known.of all.next_instance)
        (KnownInstance packages known.of all.next_instance) keeps all.tasks (λ i one test. one) known.instances;
    services = known.services;
  }

  -- some services end
  pub known_served : (packages : List Package) (all : Tasks) (services : List Service) (keeps : Service → Bool)
      → AreKnown packages all services
      → AreKnown packages all (filter keeps services)
  known_served packages all services keeps known = record {
    of = known.of;
    instances = known.instances;
    services = kept_pass (KnownService packages) (KnownService packages) keeps services (λ s one test. one)
        known.services;
  }

  -- what a uid had ends, and others are installed: who was installed still is but for that uid
  pub known_forgotten : (packages others : List Package) (all : Tasks) (services : List Service) (uid : ℕ)
      → ((name : List ℕ) (other : ℕ) → eqb other uid ≡ false → uid_named packages name ≡ Some other
      → uid_named others name ≡ Some other)
      → AreKnown packages all services
      → AreKnown others (tasks.forget_uid all uid) (filter (λ (service : Service). not (service.owner == uid)) services)
  known_forgotten packages others all services uid stays known = record {
    of = known.of;
    instances = tasks_kept (KnownInstance packages known.of all.next_instance)
        (KnownInstance others known.of all.next_instance)
        (λ (i : Instance). not (i.owner == uid)) all.tasks
        (λ i one test. record {
          started = one.started;
          owned = stays i.component.«package» i.owner
              (unless_true (eqb i.owner uid) test) one.owned;
          named = one.named;
          below = one.below;
        })
        known.instances;
    services = kept_pass (KnownService packages) (KnownService others)
        (λ (service : Service). not (service.owner == uid)) services
        (λ s one test. record {
          served = one.served;
          owned = stays s.component.«package» s.owner
              (unless_true (eqb s.owner uid) test) one.owned;
        }) known.services;
  }

  -- the same uid is named twice
  same_uid : (packages : List Package) (name : List ℕ) (first second : ℕ) → uid_named packages name ≡ Some first
      → uid_named packages name ≡ Some second → first ≡ second
  same_uid packages name first second one other = let e : Some first ≡ Some second = sym one ∙ other in cc

  -- a service is started by an entry behind others, after which the services were known
  pub known_start : (packages : List Package) (all : Tasks) (services : List Service) (component : Component)
      (owner : ℕ) (intent : Intent)
      → uid_named packages component.«package» ≡ Some owner → (start : Once opening h (IsServed component owner intent))
      → All (λ (s : Service). IsStartedEachTime opening start.before s) services
      → AreKnown packages all services → AreKnown packages all (with_start services component owner intent
      (running services component))
  known_start packages all services component owner intent is start before known =
      record { of = known.of; instances = known.instances; services = by (running services component) }
    where
      -- started once more
      more : (s : Service) → component ≡ s.component → owner ≡ s.owner → IsStartedEachTime opening start.before s
          → IsStartedEachTime opening h (record s { intent = intent; starts = s.starts + 1 })
      more s same owned one =
          let was : AreStarts opening h component owner (intent ∷ s.intent ∷ one.earlier) = (
            start,
            subst (λ (u : ℕ). AreStarts opening start.before component u (s.intent ∷ one.earlier)) (sym owned)
                (subst (λ (c : Component). AreStarts opening start.before c s.owner (s.intent ∷ one.earlier)) (sym same)
                one.starts),
          ) in
          record {
            earlier = s.intent ∷ one.earlier;
            starts = subst (λ (u : ℕ). AreStarts opening h s.component u (intent ∷ s.intent ∷ one.earlier)) owned
                (subst (λ (c : Component). AreStarts opening h c owner (intent ∷ s.intent ∷ one.earlier)) same was);
            count = let counted : s.starts ≡ length (s.intent ∷ one.earlier) = one.count in omega arith;
          }

      again : (s : Service) → KnownService packages s × IsStartedEachTime opening start.before s → (b : Bool)
          → is_service component s ≡ b
          → KnownService packages (cond b (record s { intent = intent; starts = s.starts + 1 }) s)
      again s one true test =
          let same : component ≡ s.component = same_component component s.component test in
          let named : uid_named packages s.component.«package» ≡ Some owner = subst
          (λ (c : Component). uid_named packages c.«package» ≡ Some owner) same is in
          record {
            served = more s same (same_uid packages s.component.«package» owner s.owner named one.0.owned) one.1;
            owned = one.0.owned;
          }
      again s one false test = one.0

      by : (found : Option Service) → All (KnownService packages) (with_start services component owner intent found)
      by (Some service) =
          All-map (KnownService packages) (restarted component intent) services
          (All-weaker (λ (s : Service). KnownService packages s × IsStartedEachTime opening start.before s)
          (λ (s : Service). KnownService packages (restarted component intent s))
          (λ s one. again s one (is_service component s) refl) services
          (λ k d below. (known.services k d below, before k d below)))
      by None =
          All-push (KnownService packages) services (record {
            component = component;
            owner = owner;
            intent = intent;
            starts = 1;
          }) known.services
          (record { served = record { earlier = []; starts = (start, tt); count = refl }; owned = is })

  -- an activity is started
  pub known_placed : (packages : List Package) (all : Tasks) (services : List Service) (call : StartCall)
      (landed : Landed × Tasks)
      → uid_named packages call.target.«package» ≡ Some call.owner
      → Once opening h (IsStarted call.target call.owner call.intent)
      → place all call ≡ Ok landed → AreKnown packages all services → AreKnown packages landed.1 services
  known_placed packages all services call landed is once done known =
      subst (λ (r : Landed × Tasks). AreKnown packages r.1 services) (sym (place_carries_out all call landed done))
      (record {
        of = of;
        instances = placed_of Q known.of (λ i one. one.named) call R all keeps gives makes known.instances;
        services = known.services;
      })
    where
      next : ℕ
      next = (carried_out all call (plan_for all call)).1.next_instance

      of : ℕ → Component
      of number = cond (eqb number all.next_instance) call.target (known.of number)

      Q : Instance → Type 0
      Q i = KnownInstance packages known.of all.next_instance i

      R : Instance → Type 0
      R i = KnownInstance packages of next i

      old : (i : Instance) → i.number < all.next_instance → known.of i.number ≡ of i.number
      old i below = by (eqb i.number all.next_instance) refl
        where
          by : (b : Bool) → eqb i.number all.next_instance ≡ b → known.of i.number
              ≡ cond b call.target (known.of i.number)
          by true same = absurd (let e : i.number ≡ all.next_instance = eqb-true i.number all.next_instance same in
              omega arith)
          by false same = refl

      lower : (i : Instance) → i.number < all.next_instance → i.number < next
      lower i below = let more : all.next_instance ≤ next = next_keeps all call (plan_for all call) in omega
          (arith, more, below)

      keeps : (i : Instance) → Q i → R i
      keeps i one = record {
        started = one.started;
        owned = one.owned;
        named = one.named
            ∙ old i one.below;
        below = lower i one.below;
      }

      gives : (i : Instance) → Q i → i.component ≡ call.target → R (record i { intent = call.intent })
      gives i one same =
          let named : uid_named packages i.component.«package» ≡ Some call.owner = subst
          (λ (c : Component). uid_named packages c.«package» ≡ Some call.owner) (sym same) is in
          let owned : call.owner ≡ i.owner = same_uid packages i.component.«package» call.owner i.owner named one.owned
          in
          let given : Once opening h (IsStarted i.component i.owner call.intent) =
          subst (λ (u : ℕ). Once opening h (IsStarted i.component u call.intent)) owned
          (subst (λ (c : Component). Once opening h (IsStarted c call.owner call.intent)) (sym same) once) in
          record {
            started = record { made = one.started.made; given = given };
            owned = one.owned;
            named = one.named
                ∙ old i one.below;
            below = lower i one.below;
          }

      itself : (n : ℕ) → eqb n n ≡ true
      itself n = grind (arith)

      first : Once opening h (λ (state : State) (deed : Deed). (i : Intent)
          × IsStarted call.target call.owner i state deed)
      first = record {
        before = once.before;
        at = once.at;
        after = once.after;
        splits = once.splits;
        kept = once.kept;
        deed = once.deed;
        did = once.did;
        holds = (call.intent, once.holds);
      }

      makes : Makes (plan_for all call) → R (fresh all.next_instance call)
      makes plan = record {
        started = record { made = first; given = once };
        owned = is;
        named = sym (ap (λ b. cond b call.target (known.of all.next_instance)) (itself all.next_instance));
        below = next_makes all call (plan_for all call) plan;
      }
