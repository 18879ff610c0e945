use Rattle.std.proofs.Common.{◌≡◌, map, length, chars, IsUtf8}
use Rattle.std.specs.Str.Iter.{chars_rest}
use Rattle.am_model.specs.Paths.{matches}
use Rattle.am_uri.specs.PathElements.{element_of, is_repeated, allowed_at}
use Rattle.am_uri.specs.PathPlaces.{some_matches}
use Rattle.am_uri.specs.PathWords.{words_where}
use Rattle.am_uri.proofs.PathBits.{flags}
use Rattle.am_uri.proofs.matching.walk.Given as goal

abbrev pub invariant-loop-c : goal.invariant-loop-c
invariant-loop-c l = record {
  same_length : length l.reached ≡ length l.fn.reached;
  text : IsUtf8 (chars_rest l.c-iterator);
  repeated_written : l.repeated ≡ words_where 63 is_repeated (length l.fn.reached) (map element_of l.elements);
  allowed_written : l.allowed ≡ words_where 63 (allowed_at l.last) (length l.fn.reached) (map element_of l.elements);
  reached_so_far : some_matches (map element_of l.elements) (flags 63 l.reached) (chars (chars_rest l.c-iterator))
      ≡ matches (map element_of l.elements) (chars l.fn.path);
}
