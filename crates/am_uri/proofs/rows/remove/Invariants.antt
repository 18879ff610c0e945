use Rattle.std.proofs.Common.{◌≡◌, ◌++◌, take, drop, length}
use Rattle.am_uri.specs.PathRows.{without}
use Rattle.am_uri.proofs.rows.remove.Given as goal

abbrev pub invariant-loop-i : goal.invariant-loop-i
invariant-loop-i l = record {
  same_length : length l.words ≡ length l.initial.words;
  so_far : take l.i l.words ++ without (drop l.i l.row) (drop l.i l.words) ≡ without l.row l.initial.words;
}
