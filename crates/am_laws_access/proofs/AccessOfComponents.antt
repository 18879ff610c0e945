-- Each activity instance and each start of a running service was made by an entry that the gate admitted.
use Rattle.std.proofs.Common.{◌≡◌, ℕ, Bool, true, false, List, [], ◌∷◌, ◌++◌, refl, ◌∙◌}
use Rattle.std.specs.Prelude.{All, Some}
use Rattle.std.proofs.lemmas.List.Elements.{All-nil, All-same, All-weaker}
use Rattle.am_types.specs.declared.intent.Intent.{Intent}
use Rattle.am_types.specs.declared.intent.Component.{Component}
use Rattle.am_types.specs.declared.device.Package.{Package}
use Rattle.am_types.specs.declared.manifest.Decl.{Decl}
use Rattle.am_types.specs.declared.manifest.Kind.TheVariants as kinds
use Rattle.am_types.specs.declared.history.Entry.{Entry}
use Rattle.am_types.specs.declared.request.Request.{Request}
use Rattle.am_model.specs.Boards.{with_stopped, without_package}
use Rattle.am_model.specs.Gates.{verdict, Admit}
use Rattle.am_model.specs.Receivers.{declared}
use Rattle.am_model.specs.Tasks.{Instance, Task, Tasks}
use Rattle.am_history.specs.State.{State, Service}
use Rattle.am_history.specs.Answers.{done}
use Rattle.am_history.specs.Activities.{start_call}
use Rattle.am_history.specs.Packages.{installed}
use Rattle.am_history.specs.Steps.{after_due, step}
use Rattle.am_history.specs.History.{replay}
use Rattle.am_history.specs.Desks.{Origin, opening_of}
use Rattle.am_laws.specs.Access.{Starts, Serves, deed_of, Once, IsStarted, IsServed, IsStartedByEntries, OfInstances}
use Rattle.am_laws_access.specs.Starts.{IsStartedEachTime}
use Rattle.am_laws.proofs.Histories.{by_history, once_before, once_now}
use Rattle.am_laws_access.proofs.KnownComponents.{KnownInstance, KnownService, AreKnown, Known, known_among, known_kept, known_served, known_forgotten, known_start, known_placed}
use Rattle.am_laws.proofs.Openings.{opening_leaves}
use Rattle.am_laws_access.proofs.Owners.{uid_named, declared_named, named_stopped, named_more, named_without}
use Rattle.am_laws_access.proofs.Placed.{tasks_follow}
use Rattle.am_laws.proofs.Requests.{Steps, step_leaves}

-- what is known is known in a longer history
module _ (opening : State) (h : List Entry) (entry : Entry) where
  started_longer : (i : Instance) → IsStartedByEntries opening h i → IsStartedByEntries opening (h ++ entry ∷ []) i
  started_longer i one = record {
    made = once_before opening h (λ state deed. (intent : Intent) × IsStarted i.component i.owner intent state deed)
        entry one.made;
    given = once_before opening h (IsStarted i.component i.owner i.intent) entry one.given;
  }

  served_longer : (s : Service) → IsStartedEachTime opening h s → IsStartedEachTime opening (h ++ entry ∷ []) s
  served_longer s one = record {
    earlier = one.earlier;
    starts = (once_before opening h (IsServed s.component s.owner s.intent) entry one.starts.0, one.starts.1);
    count = one.count;
  }

  known_longer : (packages : List Package) (all : Tasks) (services : List Service)
      → AreKnown opening h packages all services → AreKnown opening (h ++ entry ∷ []) packages all services
  known_longer packages all services known = record {
    of = known.of;
    instances = tasks_follow (KnownInstance opening h packages known.of all.next_instance)
        (KnownInstance opening (h ++ entry ∷ []) packages known.of all.next_instance) all.tasks
        (λ i one. record {
          started = started_longer i one.started;
          owned = one.owned;
          named = one.named;
          below =
              one.below;
        }) known.instances;
    services = All-weaker (KnownService opening h packages) (KnownService opening (h ++ entry ∷ []) packages)
        (λ s one. record { served = served_longer s one.served; owned = one.owned }) services known.services;
  }

-- the entry that started a service came behind others, after which the services were known
abbrev HasServed : State → List Entry → State → Component → ℕ → Intent → Type 0
HasServed opening h state component owner intent =
    (start : Once opening h (IsServed component owner intent)) × All
    (λ (s : Service). IsStartedEachTime opening start.before s) state.services

-- what a request does is done by an entry
abbrev HasDone : State → List Entry → State → ℕ → Request → Type 0
HasDone opening h state caller request =
    ((uid : ℕ) (intent : Intent) (component : Component) (found : ℕ × Decl) → deed_of state caller request
    ≡ Some (Starts uid intent)
    → declared state.board.packages kinds.Activity component ≡ Some found
    → verdict state.board.grants uid found.0 found.1.exported found.1.permission ≡ Admit
    → Once opening h (IsStarted component found.0 intent))
    × ((uid : ℕ) (intent : Intent) (component : Component) (found : ℕ × Decl) → deed_of state caller request
    ≡ Some (Serves uid intent)
    → declared state.board.packages kinds.Service component ≡ Some found
    → verdict state.board.grants uid found.0 found.1.exported found.1.permission ≡ Admit
    → HasServed opening h state component found.0 intent)

module _ (opening : State) (h : List Entry) (state : State) (known : Known opening h state) where
  -- who was installed still is when a package is stopped or not any more
  awake : (uid : ℕ) (stopped : Bool) (name : List ℕ) (other : ℕ) → uid_named state.board.packages name ≡ Some other
      → uid_named (with_stopped state.board.packages uid stopped) name ≡ Some other
  awake uid stopped name other is = named_stopped state.board.packages uid stopped name ∙ is

  -- each step
  known_after : (caller : ℕ) (request : Request) → HasDone opening h state caller request
      → Steps (Known opening h) state caller request
  known_after caller request done = record {
    here = known;
    started = λ uid intent source component found landed did is admits placed.
        known_among opening h state.board.packages (with_stopped state.board.packages found.0 false) landed.1
        state.services (awake found.0 false)
        (known_placed opening h state.board.packages state.tasks state.services
        (start_call uid intent source component found) landed
        (declared_named state.board.packages kinds.Activity component found is)
        (done.0 uid intent component found did is admits) placed known);
    served = λ uid intent component found did is admits.
        known_among opening h state.board.packages (with_stopped state.board.packages found.0 false) state.tasks _
        (awake found.0 false)
        (known_start opening h state.board.packages state.tasks state.services component found.0 intent
        (declared_named state.board.packages kinds.Service component found is)
        (done.1 uid intent component found did is admits).0
        (done.1 uid intent component found did is admits).1 known);
    sent = λ sender intent permission ordered did unprotected. known;
    ended = λ keeps. known_kept opening h state.board.packages state.tasks state.services keeps known;
    unserved = λ keeps. known_served opening h state.board.packages state.tasks state.services keeps known;
    registered = λ filter permission asked. known;
    taken_back = λ found. known;
    finished = λ number answer holder asked is own. known;
    got = λ kind code intent flags got asked given. known;
    changed = λ after left same one. one;
    installed = λ text key manifest asked admin read name_unused key_unused room.
        known_among opening h state.board.packages (state.board.packages ++ installed state manifest key ∷ [])
        state.tasks state.services
        (λ name uid named. named_more state.board.packages (installed state manifest key) name uid named) known;
    gone = λ uid.
        known_forgotten opening h state.board.packages (without_package state.board.packages uid) state.tasks
        state.services uid
        (λ name other differs named. named_without state.board.packages uid name other differs named) known;
    stopped = λ uid.
        known_forgotten opening h state.board.packages (with_stopped state.board.packages uid true) state.tasks
        state.services uid
        (λ name other differs named. awake uid true name other named) known;
    granted = λ uid permission held live room. known;
    linked = λ uid host approved live room. known;
    advanced = λ by fits. known;
  }

module _ (opening : State) where
  -- an entry leaves all known
  known_more : (before : List Entry) (entry : Entry) → Known opening before (replay opening before)
      → Known opening (before ++ entry ∷ []) (step (replay opening before) before entry).1
  known_more before entry here =
      step_leaves (Known opening (before ++ entry ∷ [])) (replay opening before) before entry longer
      (λ kept. known_after opening (before ++ entry ∷ []) due longer entry.uid entry.request (did kept))
    where
      due : State
      due = after_due (replay opening before) entry.now

      longer : Known opening (before ++ entry ∷ []) due
      longer = known_longer opening before entry due.board.packages due.tasks due.services here

      did : entry.kept ≡ true → HasDone opening (before ++ entry ∷ []) due entry.uid entry.request
      did kept = (
        λ uid intent component found is declared admits.
            once_now opening before (IsStarted component found.0 intent) entry (Starts uid intent) kept is
            (record { caller = uid; is = refl; decl = found.1; declared = declared; admitted = admits }),
        λ uid intent component found is declared admits. (
          once_now opening before (IsServed component found.0 intent) entry (Serves uid intent) kept is
              (record { caller = uid; is = refl; decl = found.1; declared = declared; admitted = admits }),
          All-weaker (KnownService opening before due.board.packages) (IsStartedEachTime opening before)
              (λ s one. one.served) due.services here.services,
        ),
      )

-- after every history all instances and services are known
pub all_known : (origin : Origin) (history : List Entry) → Known (opening_of origin) history
    (replay (opening_of origin) history)
all_known origin history =
    by_history (opening_of origin) (Known (opening_of origin)) begins (known_more (opening_of origin)) history
  where
    none : ((opening_of origin).tasks.tasks ≡ []) × ((opening_of origin).services ≡ [])
    none = opening_leaves (λ (state : State). (state.tasks.tasks ≡ []) × (state.services ≡ []))
        (λ state board uid same empty. empty) origin (refl, refl)

    no_component : ℕ → Component
    no_component number = record { «package» = []; class = [] }

    Q : Instance → Type 0
    Q i = KnownInstance (opening_of origin) [] (opening_of origin).board.packages no_component
        (opening_of origin).tasks.next_instance i

    S : Service → Type 0
    S s = KnownService (opening_of origin) [] (opening_of origin).board.packages s

    begins : Known (opening_of origin) [] (opening_of origin)
    begins = record {
      of = no_component;
      instances = All-same (λ (task : Task). All Q task.instances) (opening_of origin).tasks.tasks [] none.0
          (All-nil (λ (task : Task). All Q task.instances));
      services = All-same S (opening_of origin).services [] none.1 (All-nil S);
    }

-- so each instance was started by entries that the gate admitted
pub instances_are_admitted : (origin : Origin) (history : List Entry)
    → OfInstances (IsStartedByEntries (opening_of origin) history) (replay (opening_of origin) history).tasks.tasks
instances_are_admitted origin history =
    let known = all_known origin history in
    let state = replay (opening_of origin) history in
    tasks_follow (KnownInstance (opening_of origin) history state.board.packages known.of state.tasks.next_instance)
    (IsStartedByEntries (opening_of origin) history)
    state.tasks.tasks (λ i one. one.started) known.instances

-- and so was each running service, as often as it was started
pub services_are_admitted : (origin : Origin) (history : List Entry)
    → All (IsStartedEachTime (opening_of origin) history) (replay (opening_of origin) history).services
services_are_admitted origin history =
    let state = replay (opening_of origin) history in
    All-weaker (KnownService (opening_of origin) history state.board.packages)
    (IsStartedEachTime (opening_of origin) history) (λ s one. one.served)
    state.services (all_known origin history).services
