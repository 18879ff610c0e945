use Rattle.std.proofs.Common.{◌≡◌, ◌≤◌, ◌++◌, map, take, length, chars, IsUtf8}
use Rattle.std.specs.Str.Iter.{chars_rest}
use Rattle.am_model.specs.Paths.{elements_of, marks_of}
use Rattle.am_uri.specs.PathElements.{element_of, elements_left}
use Rattle.am_uri.proofs.pattern.read_elements.Given as goal

abbrev pub invariant-loop-element : goal.invariant-loop-element
invariant-loop-element l = record {
  same_length : length l.elements ≡ length l.initial.elements;
  within : l.count ≤ length l.elements;
  text : IsUtf8 (chars_rest l.rest);
  read_so_far : map element_of (take l.count l.elements) ++ elements_left l.rest
      ≡ elements_of (marks_of (chars l.fn.pattern));
}

abbrev pub decreases-loop-element : goal.decreases-loop-element
decreases-loop-element l = length (chars_rest l.rest)
