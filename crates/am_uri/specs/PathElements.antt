-- The elements of a pattern as the code keeps them.
use Rattle.std.specs.Prelude.{ℕ, Bool, ◌&&◌, ◌==◌, List, chars}
use Rattle.std.specs.declared.str.Chars.{Chars}
use Rattle.std.specs.Str.Iter.{chars_rest}
use Rattle.am_model.specs.Paths.{Mark, Element, marks_of, elements_of, allows}
use Rattle.am_uri.specs.declared.pattern.Mark.{Mark as KeptMark}
use Rattle.am_uri.specs.declared.pattern.Element.{Element as KeptElement}

-- a mark that the code keeps
abbrev pub mark_of : KeptMark → Mark
mark_of kept = record { character = kept.character; plain = kept.plain }

-- an element that the code keeps
abbrev pub element_of : KeptElement → Element
element_of kept = record { mark = mark_of kept.mark; many = kept.repeated }

-- a plain dot, which allows every character
abbrev pub is_wild : Mark → Bool
is_wild mark = mark.plain && (mark.character == 46)

-- the element is repeated
abbrev pub is_repeated : Element → Bool
is_repeated element = element.many

-- the element allows the character
abbrev pub allowed_at : ℕ → Element → Bool
allowed_at c element = allows element.mark c

-- the marks of the characters that are left
abbrev pub marks_left : Chars → List Mark
marks_left rest = marks_of (chars (chars_rest rest))

-- the elements of the characters that are left
abbrev pub elements_left : Chars → List Element
elements_left rest = elements_of (marks_left rest)
