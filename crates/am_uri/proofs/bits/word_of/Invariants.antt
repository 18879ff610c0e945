use Rattle.std.proofs.Common.{◌≡◌, ◌≤◌, map, drop, length}
use Rattle.am_uri.specs.PathElements.{element_of}
use Rattle.am_uri.specs.PathWords.{passes, word_where}
use Rattle.am_uri.proofs.bits.word_of.Given as goal

abbrev pub invariant-loop-i : goal.invariant-loop-i
invariant-loop-i l = record {
  within : l.i ≤ length l.elements;
  so_far : l.word ≡ word_where (passes l.test) (map element_of (drop l.i l.elements));
}

abbrev pub decreases-loop-i : goal.decreases-loop-i
decreases-loop-i l = l.i
