-- A question that the words ask: which components a package sees of those that a query finds.
use Rattle.std.specs.Prelude.{◌≡◌, ℕ, ◌≤◌, ◌⊎◌, codes, List, ◌++◌, length, Some, None, Result, Ok, Err, ⊤}
use Rattle.std.specs.Io.KnownBytes.{Consumes, IsAtEnd}
use Rattle.am_outside.specs.Counts.{HasRisen}
use Rattle.am_model.specs.Boards.{caller_of}
use Rattle.am_wire_fields.specs.declared.fault.WireFault.{WireFault}
use Rattle.am_wire_fields.specs.Printing.{printed}
use Rattle.am_manifest_queries.specs.declared.device.Described.{Described}
use Rattle.am_manifest_queries.specs.Queries.{described}
use Rattle.am_visible.specs.Answers.{answer_to}
use Rattle.am_http.specs.Links.{SourceView}
use Rattle.am_http.specs.Sessions.{GivesAtMost}
use Rattle.am_console.specs.declared.setback.Setback.TheVariants as setbacks
use Rattle.am_console.specs.Devices.{ReadsAs}
use Rattle.am_console.specs.Files.{Shelf}
use Rattle.am_words.specs.declared.command.QuestionWords.{QuestionWords}
use Rattle.am_shell.specs.declared.undone.Undone.{Undone}
use Rattle.am_shell.specs.declared.undone.Undone.TheVariants as undone
use Rattle.am_shell.specs.Devices.{FailsToOpen}
use Rattle.am_console.specs.Telling.{OnlyTold, Prints, Voices}
use Rattle.am_shell.specs.Lines.{line_of, status_of, write_line}
use Rattle.am_shell.specs.World.{World, voices_in}

-- the most bytes that are read: one more than a query's body may have
abbrev pub most_read : ℕ
most_read = 65537

-- the input was read to its end, or as far as it is read at most, if it tells what is left
pub record IsRead (before after : SourceView) (bytes : List ℕ) : Type 0 where
  pub taken : Consumes before.left after.left bytes
  pub within : length bytes ≤ most_read
  pub end : (length bytes ≡ most_read) ⊎ IsAtEnd after.left

-- so many more bytes were read, none only at the end
pub record ReadsMore (before after : SourceView) (old new : List ℕ) (count : ℕ) : Type 0 where
  pub piece : List ℕ
  pub grows : new ≡ old ++ piece
  pub counted : length piece ≡ count
  pub taken : Consumes before.left after.left piece
  pub within : length new ≤ most_read
  pub end : count ≡ 0 → IsAtEnd after.left

-- why the input wasn't read: it failed, or memory ran out. At most so many bytes of it were taken
abbrev pub FailsToRead : Undone → ℕ → SourceView → SourceView → Type 0
FailsToRead undone.InputFault most before after =
    HasRisen before.faults after.faults × GivesAtMost most before.left after.left
FailsToRead (undone.Setback setbacks.NoMemory) most before after = GivesAtMost most before.left after.left
FailsToRead _ most before after = ⊥

-- the device file describes a device with its queries, in which the package that asks is this caller
pub record IsAsked (asked : QuestionWords) (files : Shelf) (known : Described) (caller : ℕ) : Type 0 where
  pub file : ReadsAs described files.files asked.device (Ok known)
  pub named : caller_of known.device.packages asked.«package» ≡ Some caller

-- the line of a query that is refused
abbrev pub query_line : WireFault → List ℕ
query_line fault = codes "am: query refused: " ++ printed fault ++ codes "\n"

-- why a question that has this reply isn't answered: it is a fault, which the line names, or memory ran out
abbrev pub IsNoReply : Undone → Result (List ℕ) WireFault → Type 0
IsNoReply (undone.QueryRefused line) reply = (fault : WireFault) × (reply ≡ Err fault) × (line ≡ query_line fault)
IsNoReply (undone.Setback setbacks.NoMemory) reply = ⊤
IsNoReply _ reply = ⊥

-- the answer to the caller for this input, as text or as the first fault
pub record Replies (asked : QuestionWords) (before after : World) (reply : Result (List ℕ) WireFault) : Type 0 where
  pub known : Described
  pub caller : ℕ
  pub asks : IsAsked asked before.files known caller
  pub bytes : List ℕ
  pub input : IsRead before.input after.input bytes
  pub answers : answer_to known caller bytes ≡ reply

-- the input was read, as far as it is read at most, for a caller that the device has
pub record IsBegun (asked : QuestionWords) (before after : World) : Type 0 where
  pub known : Described
  pub caller : ℕ
  pub asks : IsAsked asked before.files known caller
  pub taken : GivesAtMost most_read before.input.left after.input.left

-- why a question isn't answered: the device file, the name, the input, or what was asked; or memory ran out. The input
-- is as it was before, unless the device has the caller
abbrev pub FailsToAnswer : Undone → QuestionWords → World → World → Type 0
FailsToAnswer (undone.Setback setback) asked before after =
    (FailsToOpen setback described asked.device before.files after.files × (after.input ≡ before.input))
    ⊎ ((setback ≡ setbacks.NoMemory) × IsBegun asked before after)
FailsToAnswer undone.NoPackage asked before after =
    ((known : Described) × ReadsAs described before.files.files asked.device (Ok known)
    × (caller_of known.device.packages asked.«package» ≡ None)) × (after.input ≡ before.input)
FailsToAnswer undone.InputFault asked before after =
    IsBegun asked before after × HasRisen before.input.faults after.input.faults
FailsToAnswer (undone.QueryRefused line) asked before after =
    (fault : WireFault) × Replies asked before after (Err fault) × (line ≡ query_line fault)
FailsToAnswer _ asked before after = ⊥

-- the text that answers the question, or why it isn't answered
abbrev pub Happens : Result (List ℕ) Undone → QuestionWords → World → World → Type 0
Happens (Ok text) asked before after = Replies asked before after (Ok text)
Happens (Err why) asked before after = FailsToAnswer why asked before after

-- how a question is told, on the output and the errors and by the status: the text of its answer is printed
abbrev pub TellsAnswer : Result (List ℕ) Undone → Voices → Voices → ℕ → Type 0
TellsAnswer (Ok text) before after status = Prints write_line text 0 before after status
TellsAnswer (Err why) before after status = OnlyTold (line_of why) (status_of why) before after status

-- a run of a question that is asked: how it went, and that the output, the errors and the status tell it
pub record RunsQuestion (asked : QuestionWords) (before after : World) (status : ℕ) : Type 0 where
  pub work : Result (List ℕ) Undone
  pub happened : Happens work asked before after
  pub told : TellsAnswer work (voices_in before) (voices_in after) status
