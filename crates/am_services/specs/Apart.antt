-- What a start does to a service, and that no two services have the same component.
use Rattle.std.specs.Prelude.{ℕ, ◌+◌, Bool, true, ◌&&◌, List, [], ◌∷◌, is_none}
use Rattle.am_types.specs.declared.intent.Intent.{Intent}
use Rattle.am_types.specs.declared.intent.Component.{Component}
use Rattle.am_history.specs.State.{Service}
use Rattle.am_history.specs.Services.{running}

-- a service that is started for the first time
abbrev pub fresh : Component → ℕ → Intent → Service
fresh component owner intent = record { component = component; owner = owner; intent = intent; starts = 1 }

-- the service, started once more with an intent
abbrev pub again : Intent → Service → Service
again intent service = record service { intent = intent; starts = service.starts + 1 }

-- no two services have the same component
abbrev pub are_apart : List Service → Bool
are_apart [] = true
are_apart (first ∷ others) = is_none (running others first.component) && are_apart others
