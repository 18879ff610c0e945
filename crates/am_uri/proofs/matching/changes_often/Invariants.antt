use Rattle.std.proofs.Common.{◌≤◌}
use Rattle.am_uri.proofs.matching.changes_often.Given as goal

abbrev pub invariant-loop-c : goal.invariant-loop-c
invariant-loop-c l = l.changes ≤ 24
