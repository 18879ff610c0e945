-- Each step of a request raises each number by one at most.
use Rattle.std.proofs.Common.{◌≡◌, ℕ, ◌+◌, ◌<◌, ◌≤◌, Bool, true, false, not, cond, List, [], ◌∷◌, ◌++◌, refl, sym, subst, arith}
use Rattle.std.specs.Prelude.{All, filter, Option, Some, None, Ok, ◌==◌}
use Rattle.std.proofs.lemmas.List.Elements.{All-filter, All-map, All-push, All-weaker}
use Rattle.am_types.specs.declared.intent.Intent.{Intent}
use Rattle.am_types.specs.declared.intent.Component.{Component}
use Rattle.am_types.specs.declared.broadcast.Spot.{Spot}
use Rattle.am_types.specs.declared.resolve.Registration.{Registration}
use Rattle.am_types.specs.declared.request.Request.{Request}
use Rattle.am_types.specs.declared.task.StartCall.{StartCall}
use Rattle.am_types.specs.declared.task.Landed.{Landed}
use Rattle.am_model.specs.Boards.{with_stopped, with_grant, with_link, without_package, grants_without, links_without}
use Rattle.am_model.specs.Receivers.{receivers}
use Rattle.am_model.specs.Tasks.{Tasks, tasks_keeping}
use Rattle.am_model.specs.Placement.{Plan, NewTask, FreshOn, NewIntentTo, FrontOf, carried_out, place}
use Rattle.am_model.specs.Broadcasts.{Broadcasts}
use Rattle.am_model.specs.Sending as sending
use Rattle.am_model.specs.Sending.{with_sent, finished, is_registered}
use Rattle.am_model.proofs.PlacementLaws.{plan_for, place_carries_out}
use Rattle.am_history.specs.State.{State, Service}
use Rattle.am_history.specs.Activities.{start_call}
use Rattle.am_history.specs.Services.{is_service, running, restarted, with_start}
use Rattle.am_history.specs.BroadcastCalls.{sending_of, with_registered}
use Rattle.am_history.specs.Packages.{forget, installed}
use Rattle.am_history.specs.Steps.{at_moment}
use Rattle.am_history.specs.Numbers.{HasNumbersTo}
use Rattle.am_laws.proofs.NextBroadcasts.{expired_keeps, forget_keeps, forget_uid_keeps, finished_keeps, sent_gives_one}
use Rattle.am_laws.proofs.NumberParts.{bounded, next_bound, with_installed, with_other_packages, with_tasks, with_broadcasts, with_pendings, with_services, with_receivers}
use Rattle.am_laws.proofs.Requests.{Steps}
use Rattle.am_laws.proofs.Tokens.{GotTo, get_gives_one}

-- the next numbers of tasks and of instances are at most that
abbrev HasTaskNumbersTo : ℕ → Tasks → Type 0
HasTaskNumbersTo n all = (all.next_task ≤ n) × (all.next_instance ≤ n)

-- a plan that is carried out gives at most one number of each kind
carried_numbers : (n : ℕ) (all : Tasks) (call : StartCall) (plan : Plan) → all.next_task ≤ n → all.next_instance ≤ n
    → HasTaskNumbersTo (n + 1) (carried_out all call plan).1
carried_numbers n all call (NewTask single) few few_instances = (omega arith, omega arith)
carried_numbers n all call (FreshOn task kept) few few_instances = (omega arith, omega arith)
carried_numbers n all call (NewIntentTo task kept number) few few_instances = (omega arith, omega arith)
carried_numbers n all call (FrontOf task) few few_instances = (omega arith, omega arith)

-- and so does a start
placed_numbers : (n : ℕ) (all : Tasks) (call : StartCall) (landed : Landed × Tasks) → all.next_task ≤ n
    → all.next_instance ≤ n
    → place all call ≡ Ok landed → HasTaskNumbersTo (n + 1) landed.1
placed_numbers n all call landed few few_instances done =
    subst (λ (r : Landed × Tasks). HasTaskNumbersTo (n + 1) r.1) (sym (place_carries_out all call landed done))
    (carried_numbers n all call (plan_for all call) few few_instances)

-- no service was started more often
abbrev StartsTo : ℕ → Service → Type 0
StartsTo n service = service.starts ≤ n

-- one more start raises it by one at most
restarted_once : (n : ℕ) (component : Component) (intent : Intent) (service : Service) → service.starts ≤ n
    → (restarted component intent service).starts ≤ n + 1
restarted_once n component intent service few = by (is_service component service)
  where
    by : (b : Bool) → (cond b (record service { intent = intent; starts = service.starts + 1 }) service).starts ≤ n + 1
    by true = omega arith
    by false = omega arith

-- one more is at most one more
one_more : (n : ℕ) (service : Service) → service.starts ≤ n → service.starts ≤ n + 1
one_more n service few = omega arith

-- the services after a start
started_starts : (n : ℕ) (services : List Service) (component : Component) (uid : ℕ) (intent : Intent)
    (service : Option Service) → All (StartsTo n) services
    → All (StartsTo (n + 1)) (with_start services component uid intent service)
started_starts n services component uid intent (Some service) few =
    All-map (StartsTo (n + 1)) (restarted component intent) services
    (All-weaker (StartsTo n) (λ (s : Service). StartsTo (n + 1) (restarted component intent s))
    (restarted_once n component intent) services few)
started_starts n services component uid intent None few =
    All-push (StartsTo (n + 1)) services (record { component = component; owner = uid; intent = intent; starts = 1 })
    (All-weaker (StartsTo n) (StartsTo (n + 1)) (one_more n) services few) (omega arith)

-- a number below another is below one more
below_one_more : (n : ℕ) (r : Registration) → r.number < n → r.number < n + 1
below_one_more n r below = omega arith

-- a uid that is forgotten
forget_numbers : (n : ℕ) (state : State) (uid : ℕ) → HasNumbersTo n state → HasNumbersTo n (forget state uid)
forget_numbers n state uid has = record {
  tasks = has.tasks;
  instances = has.instances;
  broadcasts = subst (λ m. m ≤ n) (sym (forget_uid_keeps state.broadcasts uid state.moment)) has.broadcasts;
  tokens = has.tokens;
  registrations = has.registrations;
  starts = All-filter (λ (service : Service). not (service.owner == uid)) (StartsTo n) state.services has.starts;
  registered = All-filter (λ (r : Registration). not (r.uid == uid))
      (λ (r : Registration). r.number < state.next_registration) state.board.registered has.registered;
}

-- the passing of time raises none
pub moment_keeps_numbers : (n : ℕ) (state : State) (moment : ℕ) → HasNumbersTo n state
    → HasNumbersTo n (at_moment state moment)
moment_keeps_numbers n state moment has =
    bounded n (at_moment state moment)
    has.tasks has.instances (subst (λ m. m ≤ n) (sym (expired_keeps state.broadcasts moment)) has.broadcasts)
    has.tokens has.registrations has.starts has.registered

module _ (n : ℕ) (state : State) (has : HasNumbersTo n state) where
  -- nothing changed
  same : HasNumbersTo (n + 1) state
  same = next_bound n state has

  -- broadcasts that kept their next number, or gave one
  same_broadcasts : (left : Broadcasts) → left.next_broadcast ≡ state.broadcasts.next_broadcast
      → HasNumbersTo (n + 1) (record state { broadcasts = left })
  same_broadcasts left kept = with_broadcasts (n + 1) state left same
      (subst (λ m. m ≤ n + 1) (sym kept) same.broadcasts)

  one_broadcast : (left : Broadcasts) → left.next_broadcast ≡ state.broadcasts.next_broadcast + 1
      → HasNumbersTo (n + 1) (record state { broadcasts = left })
  one_broadcast left more =
      let few : state.broadcasts.next_broadcast ≤ n = has.broadcasts in
      let fits : state.broadcasts.next_broadcast + 1 ≤ n + 1 = omega arith in
      with_broadcasts (n + 1) state left same (subst (λ m. m ≤ n + 1) (sym more) fits)

  -- a receiver that is registered
  registered_numbers : (r : Registration) → r.number ≡ state.next_registration
      → HasNumbersTo (n + 1) (record (with_registered state (state.board.registered ++ r ∷ []))
      { next_registration = state.next_registration + 1 })
  registered_numbers r is =
      let next : state.next_registration ≤ n = has.registrations in
      record {
        tasks = same.tasks;
        instances = same.instances;
        broadcasts = same.broadcasts;
        tokens = same.tokens;
        registrations = omega arith;
        starts = same.starts;
        registered = All-push (λ (s : Registration). s.number < state.next_registration + 1) state.board.registered r
            (All-weaker (λ (s : Registration). s.number < state.next_registration)
            (λ (s : Registration). s.number < state.next_registration + 1)
            (below_one_more state.next_registration) state.board.registered has.registered)
            (omega arith);
      }

  -- a registered receiver that is taken back
  taken_back_numbers : (number : ℕ)
      → HasNumbersTo (n + 1) (record (with_registered state (filter (λ (r : Registration). not (r.number == number))
      state.board.registered)) {
        broadcasts = sending.forget_registered state.broadcasts number state.moment;
      })
  taken_back_numbers number =
      with_receivers (n + 1) (record state {
        broadcasts = sending.forget_registered state.broadcasts number state.moment;
      })
      (filter (λ (r : Registration). not (r.number == number)) state.board.registered)
      (same_broadcasts (sending.forget_registered state.broadcasts number state.moment)
      (forget_keeps state.broadcasts (λ (spot : Spot). is_registered number spot.aim) state.moment))
      (All-filter (λ (r : Registration). not (r.number == number))
      (λ (r : Registration). r.number < state.next_registration) state.board.registered has.registered)

  -- each step
  pub numbers_after : (caller : ℕ) (request : Request) → Steps (HasNumbersTo (n + 1)) state caller request
  numbers_after caller request = record {
    here = same;
    started = λ uid intent source component found landed did is admits placed.
        let few = placed_numbers n state.tasks (start_call uid intent source component found) landed has.tasks
        has.instances placed in
        with_tasks (n + 1) _ landed.1 (with_other_packages (n + 1) state
        (with_stopped state.board.packages found.0 false) same) few.0 few.1;
    served = λ uid intent component found did is admits.
        with_services (n + 1) _ (with_start state.services component found.0 intent (running state.services component))
        (with_other_packages (n + 1) state (with_stopped state.board.packages found.0 false) same)
        (started_starts n state.services component found.0 intent (running state.services component) has.starts);
    sent = λ sender intent permission ordered did unprotected.
        let sending = sending_of state sender intent ordered (receivers state.board intent sender permission) in
        one_broadcast (with_sent state.broadcasts sending ordered) (sent_gives_one state.broadcasts sending ordered);
    ended = λ keeps. with_tasks (n + 1) state (record (state.tasks) { tasks = tasks_keeping keeps state.tasks.tasks })
        same same.tasks same.instances;
    unserved = λ keeps. with_services (n + 1) state (filter keeps state.services) same
        (All-filter keeps (StartsTo (n + 1)) state.services same.starts);
    registered = λ filter permission asked.
        registered_numbers (record {
          number = state.next_registration;
          uid = caller;
          filter = filter;
          permission =
              permission;
        }) refl;
    taken_back = λ found. taken_back_numbers found.number;
    finished = λ number answer holder asked is own.
        same_broadcasts (finished state.broadcasts number answer state.moment)
        (finished_keeps state.broadcasts number answer state.moment);
    got = λ kind code intent flags got asked is. with_pendings (n + 1) state got.1 same
        (subst (GotTo (n + 1)) is (get_gives_one n state.pendings _ has.tokens));
    changed = λ after left kept one. with_pendings (n + 1) after left one
        (subst (λ m. m ≤ n + 1) (sym kept.next) one.tokens);
    installed = λ text key manifest asked admin is name_unused key_unused room.
        with_installed (n + 1) state (state.board.packages ++ installed state manifest key ∷ []) state.board.grants
        state.board.links (state.next_uid + 1) same;
    gone = λ uid.
        let left = forget state uid in
        with_installed (n + 1) left (without_package left.board.packages uid) (grants_without left.board.grants uid)
        (links_without left.board.links uid) left.next_uid (forget_numbers (n + 1) state uid same);
    stopped = λ uid.
        let left = forget state uid in
        with_other_packages (n + 1) left (with_stopped left.board.packages uid true)
        (forget_numbers (n + 1) state uid same);
    granted = λ uid permission held live room.
        with_installed (n + 1) state state.board.packages (with_grant state.board.grants uid permission held)
        state.board.links state.next_uid same;
    linked = λ uid host approved live room.
        with_installed (n + 1) state state.board.packages state.board.grants
        (with_link state.board.links uid host approved) state.next_uid same;
    advanced = λ by fits. moment_keeps_numbers (n + 1) state (state.moment + by) same;
  }
