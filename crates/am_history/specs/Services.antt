-- Starting and stopping services.
use Rattle.std.specs.Prelude.{ℕ, ◌+◌, Bool, false, not, ◌&&◌, ◌||◌, ◌==◌, nat_le, List, [], ◌∷◌, ◌++◌, length, map, filter, if◌then◌else◌, Option, Some, None, is_none}
use Rattle.std.specs.List.{find}
use Rattle.am_types.specs.declared.intent.Intent.{Intent}
use Rattle.am_types.specs.declared.intent.Component.{Component}
use Rattle.am_types.specs.declared.manifest.Decl.{Decl}
use Rattle.am_types.specs.declared.manifest.Kind.TheVariants as kinds
use Rattle.am_types.specs.declared.resolve.Hit.{Hit}
use Rattle.am_types.specs.declared.task.ServiceView.{ServiceView}
use Rattle.am_types.specs.declared.reply.Reply.{Reply}
use Rattle.am_types.specs.declared.reply.Reply.TheVariants as replies
use Rattle.am_types.specs.declared.rule.Rule.{Rule}
use Rattle.am_types.specs.declared.rule.Rule.TheVariants as rules
use Rattle.am_types.specs.declared.rule.Limit.TheVariants as limits
use Rattle.am_model.specs.Intents.{is_same_component}
use Rattle.am_model.specs.Boards.{with_stopped}
use Rattle.am_model.specs.Candidates.{hits}
use Rattle.am_model.specs.Gates.{verdict, is_privileged}
use Rattle.am_model.specs.Receivers.{declared, rule_of}
use Rattle.am_history.specs.State.{State, Service, with_packages}
use Rattle.am_history.specs.Answers.{refused, done, unless_refused}

-- the service is that component
abbrev pub is_service : Component → Service → Bool
is_service component service = is_same_component component service.component

-- the running service of a component, if it runs
abbrev pub running : List Service → Component → Option Service
running services component = find (is_service component) services

-- the service, started once more with an intent if it is that component
abbrev pub restarted : Component → Intent → Service → Service
restarted component intent service =
    if is_service component service then record service { intent = intent; starts = service.starts + 1 } else service

-- the services with a service that runs started once more, or with a new one after them
abbrev pub with_start : List Service → Component → ℕ → Intent → Option Service → List Service
with_start services component uid intent (Some service) = map (restarted component intent) services
with_start services component uid intent None =
    services ++ record { component = component; owner = uid; intent = intent; starts = 1 } ∷ []

-- how often the service was started with this start
abbrev pub starts_with : Option Service → ℕ
starts_with None = 1
starts_with (Some service) = service.starts + 1

-- 256 services run, and this one doesn't
abbrev pub is_too_many : List Service → Option Service → Bool
is_too_many services service = is_none service && nat_le 256 (length services)

-- a service that passed the gate is started, and its package is no longer stopped
abbrev pub started : State → Intent → Component → ℕ → Option Service → Reply × State
started state intent component uid service =
    if is_too_many state.services service then refused state (rules.OverLimit limits.Services)
    else (
      replies.Started component (starts_with service),
      record (with_packages state (with_stopped state.board.packages uid false)) {
        services = with_start state.services component uid intent service;
      },
    )

-- the gate of a declared component for a caller
abbrev pub gate_rule : State → ℕ → ℕ × Decl → Option Rule
gate_rule state caller found = rule_of (verdict state.board.grants caller found.0 found.1.exported found.1.permission)

-- a start of a service that may be declared, and the rule that applies if it isn't
abbrev pub start_maybe : State → ℕ → Intent → Component → Rule → Option (ℕ × Decl) → Reply × State
start_maybe state caller intent component rule None = refused state rule
start_maybe state caller intent component rule (Some found) =
    unless_refused state (gate_rule state caller found)
    (started state intent component found.0 (running state.services component))

-- a start of the first hit of the package that the intent names
abbrev pub start_first : State → ℕ → Intent → List Hit → Reply × State
start_first state caller intent [] = refused state rules.NoService
start_first state caller intent (hit ∷ others) =
    start_maybe state caller intent hit.component rules.NoService (declared state.board.packages kinds.Service
    hit.component)

-- a start of the component that the intent names; of one of the package that it names; or of neither, which is refused
abbrev pub start_aimed : State → ℕ → Intent → Option Component → Option (List ℕ) → Reply × State
start_aimed state caller intent (Some component) name =
    start_maybe state caller intent component rules.NoComponent (declared state.board.packages kinds.Service component)
start_aimed state caller intent None (Some name) =
    start_first state caller intent (hits state.board.rules state.board.packages kinds.Service intent false)
start_aimed state caller intent None None = refused state rules.ImplicitService

-- a service is started
unfoldable pub start_service : State → ℕ → Intent → Reply × State
start_service state caller intent = start_aimed state caller intent intent.component intent.«package»

-- the rule that applies if a service doesn't run
abbrev pub stopped_rule : Option Service → Option Rule
stopped_rule None = Some rules.NoService
stopped_rule (Some service) = None

-- a service that may be declared is stopped: it runs, and the caller passes the gate
abbrev pub stop_maybe : State → ℕ → Component → Option (ℕ × Decl) → Reply × State
stop_maybe state caller component None = refused state rules.NoComponent
stop_maybe state caller component (Some found) =
    unless_refused state (stopped_rule (running state.services component))
    (unless_refused state (gate_rule state caller found)
    (done (record state { services = filter (λ service. not (is_service component service)) state.services })))

-- a service is stopped
unfoldable pub stop_service : State → ℕ → Component → Reply × State
stop_service state caller component =
    stop_maybe state caller component (declared state.board.packages kinds.Service component)

-- a service as its owner sees it
abbrev pub view_of : Service → ServiceView
view_of service = record { component = service.component; intent = service.intent; starts = service.starts }

-- the running services that a caller sees: its own, or all if it is the system or the root
abbrev pub services_of : List Service → ℕ → List ServiceView
services_of services caller =
    map view_of (filter (λ (service : Service). is_privileged caller || (service.owner == caller)) services)
