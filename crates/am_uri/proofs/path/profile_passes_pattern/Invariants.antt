use Rattle.std.proofs.Common.{◌≡◌, ◌≤◌, length, chars, IsUtf8}
use Rattle.std.specs.Str.Iter.{chars_rest}
use Rattle.am_model.specs.Paths.{matches, profile_passes_pattern}
use Rattle.am_uri.specs.PathElements.{elements_left}
use Rattle.am_uri.proofs.path.profile_passes_pattern.Given as goal

abbrev pub invariant-loop-element : goal.invariant-loop-element
invariant-loop-element l = record {
  pattern_text : IsUtf8 (chars_rest l.elements);
  path_text : IsUtf8 (chars_rest l.rest);
  short : length (chars_rest l.elements) ≤ 1024;
  so_far : matches (elements_left l.elements) (chars (chars_rest l.rest)) ≡ profile_passes_pattern l.fn.pattern l.fn.path;
}

abbrev pub decreases-loop-element : goal.decreases-loop-element
decreases-loop-element l = length (chars_rest l.elements)
