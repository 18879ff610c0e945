use Rattle.std.proofs.Common.{◌≡◌, ◌++◌}
use Rattle.am_history.specs.Desks.{IsSameDesk, start_of}
use Rattle.am_drill.specs.Calls.{before, calls_of}
use Rattle.am_drill.specs.Drills.{history_of, statuses_of}
use Rattle.am_drill.proofs.Running.{calls_left}
use Rattle.am_drill.proofs.runs.run.Given as goal

-- with the calls that are left these are all replies and all entries
abbrev pub invariant-loop-j : goal.invariant-loop-j
invariant-loop-j g l =
    let first = g.D.Desk.view l.initial.desk in
    let desk = g.D.Desk.view l.desk in
    let left = calls_left l.packages l.requests l.j l.initial.draws in
    let all = calls_of l.packages l.requests l.initial.draws in
    record {
      statuses : l.statuses.items ++ statuses_of (start_of first) desk.seen left
          ≡ statuses_of (start_of first) first.seen all;
      seen : history_of (start_of first) desk.seen left ≡ history_of (start_of first) first.seen all;
      drawn : l.draws ≡ before l.j l.initial.draws;
      same : IsSameDesk first desk;
    }
