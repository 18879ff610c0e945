use Rattle.std.proofs.Common.{◌≤◌, ◌-◌, length}
use Rattle.am_audit_answers.specs.Matching.{IsReplayed}
use Rattle.am_audit_answers.proofs.places.go_to.Given as goal

abbrev pub invariant-loop-replayed : goal.invariant-loop-replayed
invariant-loop-replayed l = record {
  replayed : IsReplayed (record { start = l.fn.replayed.start; history = l.history }) l.replayed;
  before : length l.fn.replayed.history ≤ l.at;
  within : length l.replayed.history ≤ l.at;
  inside : l.at ≤ length l.history;
}

abbrev pub decreases-loop-replayed : goal.decreases-loop-replayed
decreases-loop-replayed l = l.at - length l.replayed.history
