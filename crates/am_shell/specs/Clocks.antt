-- The clocks of a session and of a serving.
use Rattle.std.specs.Prelude.{◌≡◌, ℕ, Option, Some, None}
use Rattle.am_outside.specs.Clock.{moment_at}
use Rattle.am_outside.specs.declared.clock.Clock.{Ghosts as ClockGhosts}
use Rattle.am_http.specs.declared.end.End.{End}
use Rattle.am_http.specs.declared.end.End.TheVariants.{Idle}
use Rattle.am_http.specs.declared.end.Served.{Served}
use Rattle.am_http.specs.Links.{Link, IsSameLink, Moments}
use Rattle.am_http.specs.Sessions.{Session, HasFault}
use Rattle.am_words.specs.declared.command.StepWords.{StepWords}
use Rattle.am_shell.specs.declared.clocks.ServingClock.{ServingClock}
use Rattle.am_shell.specs.declared.clocks.ServingClock.TheVariants.{Handed, Standing}

-- the moments of a session: of its own clock, if the words ask for one, otherwise of the clock that is handed in
abbrev pub moments_for : Option StepWords → Moments → Moments
moments_for None handed = handed
moments_for (Some asked) handed = λ calls. Some (moment_at asked.at asked.step calls)

-- what the clock that is handed in tells after a session whose clock tells `told`: it isn't asked if the session has
-- its own
abbrev pub left_of : Option StepWords → Moments → Moments → Moments
left_of None handed told = told
left_of (Some asked) handed told = handed

-- the link with a clock that tells this
abbrev pub with_clock : Link → Moments → Link
with_clock link told = record link { server = record (link.server) { clock = told } }

-- the link with the clock of the session
abbrev pub timed : Option StepWords → Link → Link
timed asked link = with_clock link (moments_for asked link.server.clock)

-- a connection as it went, with its end, whose cause is told, over the same link throughout. It didn't rest
pub record Connects (old new : Link) (served : Served) (end : End) : Type 0 where
  pub ends : served.end ≡ end
  pub whole : served.end ≡ Idle → ⊥
  pub session : Session old new served
  pub fault : HasFault end old new
  pub same : IsSameLink old new

-- a connection over the clock of a session, which tells `told` at the end
pub record ServesOn (asked : Option StepWords) (end : End) (old new : Link) : Type 0 where
  pub served : Served
  pub told : Moments
  pub went : Connects (timed asked old) (with_clock new told) served end
  pub clock : new.server.clock ≡ left_of asked old.server.clock told

-- the moments of each worker of a serving: the words' moment at every call, if they say one, otherwise those of the
-- clock that is handed in
abbrev pub serving_moments : Option ℕ → Moments → Moments
serving_moments None handed = handed
serving_moments (Some moment) handed = λ calls. Some moment

-- the moments that the clock of a serving tells
abbrev pub told_by : {C : Type 0} → ClockGhosts C → ServingClock C → Moments
told_by g (Handed clock) = g.moments clock
told_by g (Standing moment) = λ calls. Some moment
