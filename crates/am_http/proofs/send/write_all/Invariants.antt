use Rattle.std.proofs.Common.{◌≡◌, ◌-◌, ◌≤◌, length, take}
use Rattle.std.specs.Io.KnownBytes.{Appends}
use Rattle.am_http.proofs.send.write_all.Given as goal

-- the front of the bytes was taken
abbrev pub invariant-loop-at : goal.invariant-loop-at
invariant-loop-at g l =
    record {
      within : l.at ≤ length l.bytes;
      sent : Appends (g.W.Sink.taken l.initial.sink) (g.W.Sink.taken l.sink) (take l.at l.bytes);
      never_falls : g.W.Sink.faults l.initial.sink ≤ g.W.Sink.faults l.sink;
      mark : g.W.Sink.mark l.sink ≡ g.W.Sink.mark l.initial.sink;
    }

abbrev pub decreases-loop-at : goal.decreases-loop-at
decreases-loop-at g l = length l.bytes - l.at
