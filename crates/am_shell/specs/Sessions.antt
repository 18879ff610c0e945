-- A session that the words ask for, and what its end or a setback means.
use Rattle.std.specs.Prelude.{◌≡◌, ℕ, List, [], Option, Some, Result, Ok, Err, IsTrue}
use Rattle.am_types.specs.declared.device.Device.{Device}
use Rattle.am_types.specs.declared.history.Entry.{Entry}
use Rattle.am_outside.specs.Counts.{HasRisen}
use Rattle.am_history.specs.Desks.{DeskView, Origin, opening_of}
use Rattle.am_history.specs.History.{IsLegal, entries_of, replay}
use Rattle.am_laws_kept.specs.Found.{OpensAs}
use Rattle.am_manifest.specs.Devices.{device_of}
use Rattle.am_http.specs.declared.end.End.{End}
use Rattle.am_http.specs.declared.end.Served.{Served}
use Rattle.am_http.specs.Exchanges.{stored_entries}
use Rattle.am_http.specs.Links.{Moments, Streams, link_of}
use Rattle.am_words.specs.declared.command.StepWords.{StepWords}
use Rattle.am_console.specs.Devices.{Describes}
use Rattle.am_words.specs.declared.command.SessionWords.{SessionWords}
use Rattle.am_shell.specs.declared.undone.Undone.{Undone}
use Rattle.am_shell.specs.declared.undone.Undone.TheVariants as undone
use Rattle.am_shell.specs.Clocks.{Connects, left_of, timed, with_clock}
use Rattle.am_shell.specs.Devices.{FailsToOpen}
use Rattle.am_shell.specs.Kept.{FailsToOpenRows, IsOrigin, IsUnchanged, Leaves, RefusesRows}
use Rattle.am_shell.specs.World.{World, streams_in}

-- the only desk of a manager with this origin, which has seen this history
abbrev pub sole_desk : Origin → List Entry → DeskView
sole_desk origin seen = record {
  origin = origin;
  number = 0;
  sharing = record { id = []; desks = 1; handed = [] };
  seen = seen;
}

-- the session of a manager with this origin over the clock of the session, from an empty history, with its end. The
-- history at the end could have been made, and it is exactly what the session's calls stored, so that each of its
-- entries is the desk's own
pub record Serves
    (origin : Origin) (asked : Option StepWords) (before after : Streams) (end : End) : Type 0 where
  pub desk : DeskView
  pub served : Served
  pub told : Moments
  pub went :
      Connects (timed asked (link_of (sole_desk origin []) before)) (with_clock (link_of desk after) told) served end
  pub legal : IsLegal (opening_of origin) desk.seen
  pub calls : desk.seen ≡ stored_entries desk.seen went.session.exchanges
  pub own : entries_of 0 desk.seen ≡ desk.seen
  pub clock : after.clock ≡ left_of asked before.clock told

-- the store keeps its rows, and the input, the output and the clock tell what they told before: nothing was kept, read,
-- written or asked
pub record IsIdle (before after : World) : Type 0 where
  pub store : IsUnchanged before.store after.store
  pub input : after.input ≡ before.input
  pub output : after.output ≡ before.output
  pub clock : after.clock ≡ before.clock

-- the device file describes a device, and the store failed
pub record Unattached (asked : SessionWords) (before after : World) : Type 0 where
  pub device : Device
  pub file : Describes before.files.files asked.device (Ok device)
  pub risen : HasRisen before.store.failed after.store.failed

-- the device file describes a device, and a row that was kept for it is refused, whose package the line names
pub record Unopened (asked : SessionWords) (before : World) (line : List ℕ) : Type 0 where
  pub device : Device
  pub file : Describes before.files.files asked.device (Ok device)
  pub refused : RefusesRows device asked.store before.store line

-- the session that is asked for, of this device, with its end: it begins with the rows that were kept, and leaves those
-- that its history has kept. With these the device opens as the session left it
pub record Works (asked : SessionWords) (device : Device) (before after : World) (end : End) : Type 0 where
  pub origin : Origin
  pub begins : IsOrigin origin device asked.store before.store
  pub session : Serves origin asked.clock (streams_in before) (streams_in after) end
  pub store : Leaves origin asked.store session.desk.seen before.store after.store
  pub found : IsTrue before.store.tells → (at : List ℕ) → asked.store ≡ Some at
      → OpensAs device (after.store.rows at) (replay (opening_of origin) session.desk.seen)

-- the session that is asked for, of the device that its file describes, ended so
pub record Worked (asked : SessionWords) (before after : World) (end : End) : Type 0 where
  pub device : Device
  pub file : Describes before.files.files asked.device (Ok device)
  pub works : Works asked device before after end

-- why a session that is asked for didn't begin: the device file, the store, a row, or memory ran out
abbrev pub FailsToBegin : Undone → SessionWords → World → World → Type 0
FailsToBegin (undone.Setback setback) asked before after =
    FailsToOpen setback device_of asked.device before.files after.files × IsIdle before after
FailsToBegin undone.StoreFault asked before after = Unattached asked before after × IsIdle before after
FailsToBegin (undone.RowsRefused line) asked before after = Unopened asked before line × IsIdle before after
FailsToBegin _ asked before after = ⊥

-- how a session that is asked for went
abbrev pub Happens : Result End Undone → SessionWords → World → World → Type 0
Happens (Ok end) asked before after = Worked asked before after end
Happens (Err why) asked before after = FailsToBegin why asked before after

-- the session that is asked for, of this device, or why it didn't begin
abbrev pub ServesOr : Result End Undone → SessionWords → Device → World → World → Type 0
ServesOr (Ok end) asked device before after = Works asked device before after end
ServesOr (Err why) asked device before after =
    FailsToOpenRows why device asked.store before.store after.store × IsIdle before after
