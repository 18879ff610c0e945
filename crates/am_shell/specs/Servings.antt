-- A serving that the words ask for: a device that many workers serve over a network.
use Rattle.std.specs.Prelude.{◌≡◌, ℕ, ◌⊎◌, codes, decimal, List, [], ◌++◌, length, Some, Result, Ok, Err, Bool, IsTrue, true, false, ⊤}
use Rattle.am_types.specs.declared.device.Device.{Device}
use Rattle.am_outside.specs.Counts.{HasRisen}
use Rattle.am_outside.specs.Memory.{one_more}
use Rattle.am_network.specs.Links.{listening_at}
use Rattle.am_history.specs.Desks.{Origin, opening_of}
use Rattle.am_history.specs.History.{replay}
use Rattle.am_laws_kept.specs.Found.{OpensAs}
use Rattle.am_manifest.specs.Devices.{device_of}
use Rattle.am_workers.specs.Serving.{Ended, IsUnserved, NetworkView, ServesAll}
use Rattle.am_shell.specs.declared.serving.Done.{Done}
use Rattle.am_words.specs.declared.command.ServingWords.{ServingWords}
use Rattle.am_console.specs.declared.setback.Setback.{Setback}
use Rattle.am_console.specs.declared.setback.Setback.TheVariants as setbacks
use Rattle.am_console.specs.Devices.{Describes}
use Rattle.am_shell.specs.declared.undone.Undone.{Undone}
use Rattle.am_shell.specs.declared.undone.Undone.TheVariants as undone
use Rattle.am_shell.specs.Devices.{FailsToOpen}
use Rattle.am_shell.specs.Kept.{FailsToOpenRows, IsOrigin, IsUnchanged, Leaves}
use Rattle.am_console.specs.Telling.{OnlyTold, Prints, Voices}
use Rattle.am_shell.specs.Lines.{line_of, network_line, status_of, write_line}
use Rattle.am_shell.specs.Clocks.{serving_moments}
use Rattle.am_shell.specs.World.{StoreView, World, voices_in}

-- the network once it was asked, one time more, and answered so many gates at a port, with this count of faults
abbrev pub listened : NetworkView → ℕ → ℕ → ℕ → NetworkView
listened network port gates faults = record {
  listening = listening_at network.listening port gates;
  listens = one_more network.listens;
  faults = faults;
  gate_faults = network.gate_faults;
}

-- the network once it was asked, one time more, and answered no gates
abbrev pub unheard : NetworkView → ℕ → NetworkView
unheard network faults = record network { listens = one_more network.listens; faults = faults }

-- the serving that is asked for, of this device: it begins with the rows that were kept, and an empty history; its
-- workers serve it over the network, which listened once and as was asked for, at the moment of the words or those of
-- the clock; and it leaves the rows that its history has kept. With these the device opens as the serving left it. What
-- is told of it are the history's length and what the workers did
pub record Works (asked : ServingWords) (device : Device) (before after : World) (done : Done) : Type 0 where
  pub origin : Origin
  pub ended : Ended
  pub begins : IsOrigin origin device asked.store before.store
  pub serves : ServesAll asked.connections asked.workers
      (record { origin = origin; history = []; clock = serving_moments asked.at before.clock }) ended
      (listened before.network asked.port asked.workers after.network.faults) after.network
  pub store : Leaves origin asked.store ended.history before.store after.store
  pub found : IsTrue before.store.tells → (at : List ℕ) → asked.store ≡ Some at
      → OpensAs device (after.store.rows at) (replay (opening_of origin) ended.history)
  pub length : done.history ≡ length ended.history
  pub totals : done.totals ≡ ended.totals

-- a manager began with the rows that were kept, and its keeper came back with these rows
pub record IsLeft (asked : ServingWords) (device : Device) (before after : StoreView) : Type 0 where
  pub origin : Origin
  pub begins : IsOrigin origin device asked.store before
  pub store : Leaves origin asked.store [] before after

-- no manager began: the rows stay, and nothing was asked of the network
pub record IsUnbegun (why : Undone) (asked : ServingWords) (device : Device) (before after : World) : Type 0 where
  pub fails : FailsToOpenRows why device asked.store before.store after.store
  pub store : IsUnchanged before.store after.store
  pub network : after.network ≡ before.network

-- why the network didn't listen: it failed, or memory ran out
abbrev pub FailsToListen : Undone → NetworkView → NetworkView → Type 0
FailsToListen undone.NetworkFault old new = HasRisen old.faults new.faults
FailsToListen (undone.Setback setbacks.NoMemory) old new = ⊤
FailsToListen _ old new = ⊥

-- the network didn't listen and is as it was, except for the counts of its calls, and the keeper of the manager that
-- began came back
pub record IsUnheard (why : Undone) (asked : ServingWords) (device : Device) (before after : World) : Type 0 where
  pub fails : FailsToListen why before.network after.network
  pub network : after.network ≡ unheard before.network after.network.faults
  pub store : IsLeft asked device before.store after.store

-- memory ran out before the first link was handed out: the network listened, and its gates came back new.
-- The rows stay
pub record LacksWorkers (why : Undone) (asked : ServingWords) (before after : World) : Type 0 where
  pub is : why ≡ undone.Setback setbacks.NoMemory
  pub network : IsUnserved asked.workers (listened before.network asked.port asked.workers after.network.faults)
      after.network
  pub store : IsUnchanged before.store after.store

-- the serving that is asked for, of this device, or why nobody was served
abbrev pub ServesOr : Result Done Undone → ServingWords → Device → World → World → Type 0
ServesOr (Ok done) asked device before after = Works asked device before after done
ServesOr (Err why) asked device before after =
    IsUnbegun why asked device before after ⊎ IsUnheard why asked device before after ⊎ LacksWorkers why asked before
    after

-- the serving that is asked for, of the device that its file describes, or why it didn't begin
pub record ServesFile (work : Result Done Undone) (asked : ServingWords) (before after : World) : Type 0 where
  pub device : Device
  pub file : Describes before.files.files asked.device (Ok device)
  pub serves : ServesOr work asked device before after

-- the device file describes no device, or memory ran out as it was read, and nothing else was done
pub record LacksDevice (work : Result Done Undone) (asked : ServingWords) (before after : World) : Type 0 where
  pub setback : Setback
  pub is : work ≡ Err (undone.Setback setback)
  pub fails : FailsToOpen setback device_of asked.device before.files after.files
  pub store : after.store ≡ before.store
  pub network : after.network ≡ before.network

-- how a serving that is asked for went
abbrev pub Happens : Result Done Undone → ServingWords → World → World → Type 0
Happens work asked before after = ServesFile work asked before after ⊎ LacksDevice work asked before after

-- the line of a serving that ended: how long its history is, and how many links were served
abbrev pub done_line : Done → List ℕ
done_line done =
    codes "history " ++ (decimal done.history ++ (codes " served " ++ (decimal done.totals.served ++ codes "\n")))

-- how a serving that ended is told: its line is printed, unless a gate failed
abbrev pub TellsDone : Bool → Done → Voices → Voices → ℕ → Type 0
TellsDone true done before after status = OnlyTold network_line 9 before after status
TellsDone false done before after status = Prints write_line (done_line done) 0 before after status

-- how a serving is told, on the output and the errors and by the status
abbrev pub TellsServing : Result Done Undone → Voices → Voices → ℕ → Type 0
TellsServing (Ok done) before after status = TellsDone done.totals.failed done before after status
TellsServing (Err why) before after status = OnlyTold (line_of why) (status_of why) before after status

-- a run of a serving that is asked for: how it went, and that the output, the errors and the status tell it
pub record RunsServing (asked : ServingWords) (before after : World) (status : ℕ) : Type 0 where
  pub work : Result Done Undone
  pub happened : Happens work asked before after
  pub told : TellsServing work (voices_in before) (voices_in after) status
