use Rattle.std.proofs.Common.{◌≡◌, ◌-◌, ◌≤◌, length}
use Rattle.std.specs.Io.KnownBytes.{Keeps, prepend_known}
use Rattle.am_http.specs.Sessions.{most_held}
use Rattle.am_http.specs.Windows.{Reads}
use Rattle.am_http.proofs.reader.next_frame.Given as goal

-- what is left stays, and no fault is forgotten
abbrev pub invariant-loop-found : goal.invariant-loop-found
invariant-loop-found g l =
    let left = g.S.Source.left in
    record {
      kept : Keeps (prepend_known l.initial.window (left l.initial.source)) (prepend_known l.window (left l.source));
      reads : Reads l.initial.window l.window (left l.initial.source) (left l.source);
      never_falls : g.S.Source.faults l.initial.source ≤ g.S.Source.faults l.source;
      mark : g.S.Source.mark l.source ≡ g.S.Source.mark l.initial.source;
      waits : g.S.Source.waits l.source ≡ g.S.Source.waits l.initial.source;
    }

abbrev pub decreases-loop-found : goal.decreases-loop-found
decreases-loop-found g l = most_held - length l.window
