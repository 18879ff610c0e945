-- A run of the program, as its status, its files, its streams and its errors show it.
use Rattle.std.specs.Prelude.{◌≡◌, ℕ, ◌⊎◌, List, Option, Some, None, Result, Ok}
use Rattle.std.specs.Io.KnownBytes.{Appends}
use Rattle.am_outside.specs.Counts.{HasRisen}
use Rattle.am_outside.specs.Files.{bytes_of}
use Rattle.am_types.specs.declared.device.Device.{Device}
use Rattle.am_outside.specs.declared.files.FileBytes.{FileBytes}
use Rattle.am_manifest.specs.Devices.{device_of}
use Rattle.am_http.specs.declared.end.End.{End}
use Rattle.am_http.specs.declared.end.End.TheVariants.{Input, Close, Refused, Cut, Limit}
use Rattle.am_words.specs.Grammar.{read_command}
use Rattle.am_words.specs.declared.command.Command.{Command}
use Rattle.am_words.specs.declared.command.Command.TheVariants.{Session, Serve, Drill, Visible}
use Rattle.am_words.specs.declared.command.SessionWords.{SessionWords}
use Rattle.am_shell.specs.declared.undone.Undone.{Undone}
use Rattle.am_shell.specs.Devices.{IsRefused, IsUnread}
use Rattle.am_shell.specs.Drillings.{RunsDrill}
use Rattle.am_shell.specs.Kept.{RefusesRows}
use Rattle.am_console.specs.Telling.{Tells}
use Rattle.am_shell.specs.Lines.{session_line, session_status, usage_line, no_memory_line}
use Rattle.am_shell.specs.Sessions.{Happens, Worked, Works, Unattached, Unopened}
use Rattle.am_shell.specs.Questions.{RunsQuestion}
use Rattle.am_shell.specs.Servings.{RunsServing}
use Rattle.am_shell.specs.World.{World, voices_in}

-- how a session went, and that the errors and the status tell it
pub record Went (asked : SessionWords) (before after : World) (status : ℕ) : Type 0 where
  pub work : Result End Undone
  pub happened : Happens work asked before after
  pub told : Tells (session_line work) (session_status work) before.errors after.errors status

-- the cause of each status of a session; running out of memory, status 8, has none
pub record HasCause (asked : SessionWords) (before after : World) (status : ℕ) : Type 0 where
  pub worked : status ≡ 0 → Worked asked before after Input ⊎ Worked asked before after Close
  pub stopped : status ≡ 1 →
      Worked asked before after Refused ⊎ Worked asked before after Cut ⊎ Worked asked before after Limit
  pub used : status ≡ 2 → ⊥
  pub refused : status ≡ 3 →
      (line : List ℕ) × IsRefused device_of before.files.files asked.device line
      × Appends before.errors.taken after.errors.taken line
  pub unread : status ≡ 4 → IsUnread asked.device before.files after.files
  pub read_fault : status ≡ 5 → HasRisen before.input.faults after.input.faults
  pub write_fault : status ≡ 6 →
      HasRisen before.output.faults after.output.faults ⊎ HasRisen before.errors.faults after.errors.faults
  pub unattached : status ≡ 7 → Unattached asked before after
  pub unopened : status ≡ 10 →
      (line : List ℕ) × Unopened asked before line × Appends before.errors.taken after.errors.taken line

-- a row that was kept for the session that is asked for, of this device, is refused
abbrev pub IsRowRefused : SessionWords → Device → World → Type 0
IsRowRefused asked device before = (line : List ℕ) × RefusesRows device asked.store before.store line

-- if the device file is told and describes a device, the session was served, unless the files, the store or the errors
-- failed, a row that was kept is refused, or memory ran out
abbrev pub Completes : SessionWords → World → World → ℕ → Type 0
Completes asked before after status =
    (files : List FileBytes) (bytes : List ℕ) (device : Device) →
    before.files.files ≡ Some files → bytes_of asked.device files ≡ Some bytes → device_of bytes ≡ Ok device →
    ((end : End) × Works asked device before after end)
    ⊎ HasRisen before.files.faults after.files.faults ⊎ HasRisen before.store.failed after.store.failed
    ⊎ IsRowRefused asked device before ⊎ HasRisen before.errors.faults after.errors.faults ⊎ (status ≡ 8)

-- a run of a session that is asked for: how it went, the cause of its status, and when it is the work
pub record RunsSession (asked : SessionWords) (before after : World) (status : ℕ) : Type 0 where
  pub went : Went asked before after status
  pub cause : HasCause asked before after status
  pub complete : Completes asked before after status

-- nothing was done except to write a line on the errors, with its status
pub record OnlyTells (line : List ℕ) (status : ℕ) (before after : World) (result : ℕ) : Type 0 where
  pub idle : after ≡ record before { errors = after.errors }
  pub told : Tells line status before.errors after.errors result

-- a run of the command that the words say, if they say one, which leaves the rest of the world as it was
abbrev pub RunsCommand : Option Command → World → World → ℕ → Type 0
RunsCommand None before after status = OnlyTells usage_line 2 before after status
RunsCommand (Some (Session asked)) before after status =
    RunsSession asked before after status × (after.network ≡ before.network)
RunsCommand (Some (Serve asked)) before after status =
    RunsServing asked before after status × (after.input ≡ before.input) × (after.clock ≡ before.clock)
RunsCommand (Some (Drill asked)) before after status =
    RunsDrill asked (voices_in before) (voices_in after) status
    × (after ≡ record before { output = after.output; errors = after.errors })
RunsCommand (Some (Visible asked)) before after status =
    RunsQuestion asked before after status
    × (after.store ≡ before.store) × (after.clock ≡ before.clock) × (after.network ≡ before.network)

-- a whole run: that of its command, or memory ran out while the words were read
abbrev pub Runs : List (List ℕ) → World → World → ℕ → Type 0
Runs words before after status =
    RunsCommand (read_command words) before after status ⊎ OnlyTells no_memory_line 8 before after status
