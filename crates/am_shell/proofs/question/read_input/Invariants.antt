use Rattle.std.proofs.Common.{◌≤◌, ◌-◌, length}
use Rattle.std.specs.Io.KnownBytes.{Consumes}
use Rattle.am_shell.specs.Questions.{most_read}
use Rattle.am_shell.proofs.question.read_input.Given as goal

-- what was read so far was taken, and no fault is forgotten
abbrev pub invariant-loop-input : goal.invariant-loop-input
invariant-loop-input g l =
    record {
      taken : Consumes (g.S.Source.left l.initial.input) (g.S.Source.left l.input) l.bytes.items;
      within : length l.bytes.items ≤ most_read;
      never_falls : g.S.Source.faults l.initial.input ≤ g.S.Source.faults l.input;
    }

abbrev pub decreases-loop-input : goal.decreases-loop-input
decreases-loop-input g l = most_read - length l.bytes.items
