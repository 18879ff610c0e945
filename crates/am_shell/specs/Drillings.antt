-- A drill that the words ask for.
use Rattle.std.specs.Prelude.{ℕ, ◌⊎◌}
use Rattle.am_drill.specs.Drills.{drilled}
use Rattle.am_drill.specs.Tallies.{printed}
use Rattle.am_words.specs.declared.command.DrillWords.{DrillWords}
use Rattle.am_console.specs.Telling.{OnlyTold, Prints, Voices}
use Rattle.am_shell.specs.Lines.{no_memory_line, write_line}

-- a run of a drill that is asked for: what is counted of the generated requests on the generated device is printed, or
-- memory ran out
abbrev pub RunsDrill : DrillWords → Voices → Voices → ℕ → Type 0
RunsDrill asked before after status =
    Prints write_line (printed (drilled asked.from asked.packages asked.requests)) 0 before after status
    ⊎ OnlyTold no_memory_line 8 before after status
