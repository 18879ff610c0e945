use Rattle.std.proofs.Common.{◌≡◌, [], length}
use Rattle.am_history.specs.State.{opening}
use Rattle.am_audit_history.specs.Histories.{Reads}
use Rattle.am_audit_history.proofs.history.read_history.Given as goal

abbrev pub invariant-loop-rest : goal.invariant-loop-rest
invariant-loop-rest l = record {
  start : l.replayed.start ≡ opening l.fn.device;
  reads : Reads (opening l.fn.device) [] l.bytes l.replayed.history l.rest;
  entries : l.entries.items ≡ l.replayed.history;
}

abbrev pub decreases-loop-rest : goal.decreases-loop-rest
decreases-loop-rest l = length l.rest
