use Rattle.std.proofs.Common.{◌≡◌, ◌++◌, ◌-◌, string_bytes}
use Rattle.std.specs.List.{range_with_len}
use Rattle.am_drill.specs.Tallies.{all_statuses, lines_of}
use Rattle.am_drill.proofs.tally.lines.Given as goal

-- with the lines that are left these are all lines
abbrev pub invariant-loop-status : goal.invariant-loop-status
invariant-loop-status l =
    string_bytes l.lines ++ lines_of l.statuses (range_with_len l.status (600 - l.status))
    ≡ lines_of l.statuses all_statuses
