use Rattle.std.proofs.Common.{◌≡◌, ◌++◌, take, drop, length}
use Rattle.am_uri.specs.PathRows.{both}
use Rattle.am_uri.proofs.rows.keep.Given as goal

abbrev pub invariant-loop-i : goal.invariant-loop-i
invariant-loop-i l = record {
  same_length : length l.words ≡ length l.initial.words;
  so_far : take l.i l.words ++ both (drop l.i l.row) (drop l.i l.words) ≡ both l.row l.initial.words;
}
