-- The numbers of a state of which a part changed.
use Rattle.std.proofs.Common.{ℕ, ◌+◌, ◌<◌, ◌≤◌, List, arith}
use Rattle.std.specs.Prelude.{All}
use Rattle.std.proofs.lemmas.List.Elements.{All-weaker}
use Rattle.am_types.specs.declared.device.Package.{Package}
use Rattle.am_types.specs.declared.device.Grant.{Grant}
use Rattle.am_types.specs.declared.device.Link.{Link}
use Rattle.am_types.specs.declared.resolve.Registration.{Registration}
use Rattle.am_model.specs.Broadcasts.{Broadcasts}
use Rattle.am_model.specs.Pendings.{Pendings}
use Rattle.am_model.specs.Tasks.{Tasks}
use Rattle.am_history.specs.State.{State, Service}
use Rattle.am_history.specs.Numbers.{HasNumbersTo}

-- what is at most a number is at most a greater one
through : (a n m : ℕ) → n ≤ m → a ≤ n → a ≤ m
through a n m more h = omega arith

-- numbers up to a bound are numbers up to a greater one
pub raised : (n m : ℕ) (state : State) → n ≤ m → HasNumbersTo n state → HasNumbersTo m state
raised n m state more has = record {
  tasks = through _ n m more has.tasks;
  instances = through _ n m more has.instances;
  broadcasts = through _ n m more has.broadcasts;
  tokens = through _ n m more has.tokens;
  registrations = through _ n m more has.registrations;
  starts = All-weaker (λ (service : Service). service.starts ≤ n) (λ (service : Service). service.starts ≤ m)
      (λ service h. through service.starts n m more h) state.services has.starts;
  registered = has.registered;
}

-- a state that stays as it is
pub next_bound : (n : ℕ) (state : State) → HasNumbersTo n state → HasNumbersTo (n + 1) state
next_bound n state has = raised n (n + 1) state (omega arith) has

-- numbers with these bounds
pub bounded : (n : ℕ) (state : State) → state.tasks.next_task ≤ n → state.tasks.next_instance ≤ n
    → state.broadcasts.next_broadcast ≤ n → state.pendings.next ≤ n
    → state.next_registration ≤ n → All (λ (service : Service). service.starts ≤ n) state.services
    → All (λ (r : Registration). r.number < state.next_registration) state.board.registered → HasNumbersTo n state
bounded n state tasks instances broadcasts tokens registrations starts registered = record {
  tasks = tasks;
  instances = instances;
  broadcasts = broadcasts;
  tokens = tokens;
  registrations = registrations;
  starts = starts;
  registered = registered;
}

-- other packages, grants and links, and another next uid
pub with_installed : (n : ℕ) (state : State) (packages : List Package) (grants : List Grant) (links : List Link)
    (uid : ℕ) → HasNumbersTo n state
    → HasNumbersTo n (record state {
      board = record (state.board) {
        packages = packages;
        grants = grants;
        links = links;
      };
      next_uid = uid;
    })
with_installed n state packages grants links uid has =
    bounded n (record state {
      board = record (state.board) { packages = packages; grants = grants; links = links };
      next_uid = uid;
    })
    has.tasks has.instances has.broadcasts has.tokens has.registrations has.starts has.registered

-- other packages
pub with_other_packages : (n : ℕ) (state : State) (packages : List Package) → HasNumbersTo n state
    → HasNumbersTo n (record state { board = record (state.board) { packages = packages } })
with_other_packages n state packages has = with_installed n state packages state.board.grants state.board.links
    state.next_uid has

-- other tasks
pub with_tasks : (n : ℕ) (state : State) (tasks : Tasks) → HasNumbersTo n state → tasks.next_task ≤ n
    → tasks.next_instance ≤ n
    → HasNumbersTo n (record state { tasks = tasks })
with_tasks n state tasks has few few_instances =
    bounded n (record state { tasks = tasks }) few few_instances has.broadcasts has.tokens has.registrations has.starts
    has.registered

-- other broadcasts
pub with_broadcasts : (n : ℕ) (state : State) (broadcasts : Broadcasts) → HasNumbersTo n state
    → broadcasts.next_broadcast ≤ n
    → HasNumbersTo n (record state { broadcasts = broadcasts })
with_broadcasts n state broadcasts has few =
    bounded n (record state { broadcasts = broadcasts }) has.tasks has.instances few has.tokens has.registrations
    has.starts has.registered

-- other pending intents
pub with_pendings : (n : ℕ) (state : State) (pendings : Pendings) → HasNumbersTo n state → pendings.next ≤ n
    → HasNumbersTo n (record state { pendings = pendings })
with_pendings n state pendings has few =
    bounded n (record state { pendings = pendings }) has.tasks has.instances has.broadcasts few has.registrations
    has.starts has.registered

-- other running services
pub with_services : (n : ℕ) (state : State) (services : List Service) → HasNumbersTo n state
    → All (λ (service : Service). service.starts ≤ n) services → HasNumbersTo n (record state { services = services })
with_services n state services has few =
    bounded n (record state { services = services }) has.tasks has.instances has.broadcasts has.tokens has.registrations
    few has.registered

-- other registered receivers
pub with_receivers : (n : ℕ) (state : State) (registered : List Registration) → HasNumbersTo n state
    → All (λ (r : Registration). r.number < state.next_registration) registered
    → HasNumbersTo n (record state { board = record (state.board) { registered = registered } })
with_receivers n state registered has given =
    bounded n (record state { board = record (state.board) { registered = registered } })
    has.tasks has.instances has.broadcasts has.tokens has.registrations has.starts given
