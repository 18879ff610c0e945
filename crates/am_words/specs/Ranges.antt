-- The ranges of the numbers in words.
use Rattle.std.specs.Prelude.{◌≡◌, ◌<◌, ◌≤◌, Option, IfSome, IsSome, Result, Err, IfOk, ⊤, codes}
use Rattle.am_words.specs.declared.command.Command.{Command}
use Rattle.am_words.specs.declared.command.Command.TheVariants.{Session, Serve, Drill, Visible}
use Rattle.am_words.specs.declared.command.DrillWords.{DrillWords}
use Rattle.am_words.specs.declared.command.ServingWords.{ServingWords}
use Rattle.am_words.specs.declared.command.WordsFault.{WordsFault}
use Rattle.am_words.specs.declared.command.WordsFault.TheVariants as fault
use Rattle.am_words.specs.Answers.{Reads}
use Rattle.am_words.specs.Options.{Text}
use Rattle.am_words.specs.Values.{path_of}

-- the numbers of a `serve` command are in their ranges
abbrev pub IsServingInRange : ServingWords → Type 0
IsServingInRange asked = (1 ≤ asked.workers) × (asked.workers ≤ 64) × IfSome asked.connections (λ most. 1 ≤ most)

-- the numbers of a `drill` command are in their ranges
abbrev pub IsDrillInRange : DrillWords → Type 0
IsDrillInRange asked = (0 < asked.packages) × (asked.packages ≤ 256)

-- the numbers of a command are in their ranges
abbrev pub IsInRange : Command → Type 0
IsInRange (Session asked) = ⊤
IsInRange (Serve asked) = IsServingInRange asked
IsInRange (Drill asked) = IsDrillInRange asked
IsInRange (Visible asked) = ⊤

-- a function returns the command that is read, whose numbers are in their ranges, unless memory ran out
abbrev pub ReadsCommand : Result Command WordsFault → Option Command → Type 0
ReadsCommand result read = Reads result read × IfOk result IsInRange

-- the same for what is made of the values of options, one of which names the device file: without it no memory is taken
abbrev pub ReadsWithDevice : Result Command WordsFault → ((Text → Option Text) → Option Command) → (Text → Option Text)
    → Type 0
ReadsWithDevice result made value =
    ReadsCommand result (made value) × (result ≡ Err fault.NoMemory → IsSome (path_of (value (codes "device"))))
