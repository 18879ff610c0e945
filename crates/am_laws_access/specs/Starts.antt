-- How a running service was started, once and again.
use Rattle.std.specs.Prelude.{◌≡◌, ℕ, List, [], ◌∷◌, length}
use Rattle.am_types.specs.declared.intent.Intent.{Intent}
use Rattle.am_types.specs.declared.intent.Component.{Component}
use Rattle.am_types.specs.declared.history.Entry.{Entry}
use Rattle.am_history.specs.State.{State, Service}
use Rattle.am_laws.specs.Access.{Once, IsServed}

-- each of these intents, the last one given first, was given by an entry of its own that started the service of that
-- package by it and that the gate admitted; the others were given by entries before that one
abbrev pub AreStarts : State → List Entry → Component → ℕ → List Intent → Type 0
AreStarts opening history component owner [] = Unit {0}
AreStarts opening history component owner (intent ∷ earlier) =
    (start : Once opening history (IsServed component owner intent))
    × AreStarts opening start.before component owner earlier

-- the service was started as often as it says, each time by an entry that the gate admitted, and the last start gave
-- its intent
pub record IsStartedEachTime (opening : State) (history : List Entry) (s : Service) : Type 0 where
  pub earlier : List Intent
  pub starts : AreStarts opening history s.component s.owner (s.intent ∷ earlier)
  pub count : s.starts ≡ length (s.intent ∷ earlier)
