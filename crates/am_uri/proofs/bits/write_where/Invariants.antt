use Rattle.std.proofs.Common.{◌≡◌, ◌++◌, ◌-◌, map, take, length}
use Rattle.am_uri.specs.PathElements.{element_of}
use Rattle.am_uri.specs.PathWords.{passes, words_where}
use Rattle.am_uri.proofs.bits.write_where.Given as goal

abbrev pub invariant-loop-i : goal.invariant-loop-i
invariant-loop-i l = record {
  same_length : length l.words ≡ length l.initial.words;
  so_far : take l.i l.words ++ words_where 63 (passes l.test) (length l.words - l.i) (map element_of l.left)
      ≡ words_where 63 (passes l.test) (length l.words) (map element_of l.elements);
}
