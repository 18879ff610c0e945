-- Rules on paths, and patterns.
use Rattle.std.specs.Prelude.{ℕ, Bool, true, false, ◌&&◌, ◌||◌, ◌==◌, List, [], ◌∷◌, if◌then◌else◌, chars}
use Rattle.std.specs.List.{flat_map}
use Rattle.std.specs.Char.Escape.{encode_utf16}
use Rattle.am_types.specs.declared.device.Rules.{Rules}
use Rattle.am_types.specs.declared.device.Rules.TheVariants.{Profile, Android12}
use Rattle.am_types.specs.declared.filter.PathRule.{PathRule}
use Rattle.am_types.specs.declared.filter.PathRule.TheVariants.{Literal, Prefix, Suffix, Pattern}
use Rattle.am_model.specs.Texts.{is_same, begins_with, ends_with}

-- a character of a pattern, and whether it is plain or follows a backslash
pub record Mark : Type 0 where
  pub character : ℕ
  pub plain : Bool

-- a character of a pattern, and whether it is repeated
pub record Element : Type 0 where
  pub mark : Mark
  pub many : Bool

-- the characters of a pattern; a backslash makes the next one literal, and stands for itself at the end
abbrev pub marks_of : List ℕ → List Mark
marks_of [] = []
marks_of (c ∷ []) = record { character = c; plain = true } ∷ []
marks_of (c ∷ next ∷ others) =
    if c == 92
    then record { character = next; plain = false } ∷ marks_of others
    else record { character = c; plain = true } ∷ marks_of (next ∷ others)

-- a star, which repeats the character before it
abbrev pub is_star : Mark → Bool
is_star mark = mark.plain && (mark.character == 42)

-- the elements of a pattern: a star belongs to the character before it, and stands for itself if there is none
abbrev pub elements_of : List Mark → List Element
elements_of [] = []
elements_of (mark ∷ []) = record { mark = mark; many = false } ∷ []
elements_of (mark ∷ next ∷ others) =
    if is_star next
    then record { mark = mark; many = true } ∷ elements_of others
    else record { mark = mark; many = false } ∷ elements_of (next ∷ others)

-- the character is allowed at the mark: a plain dot allows every one
abbrev pub allows : Mark → ℕ → Bool
allows mark c = (mark.plain && (mark.character == 46)) || (mark.character == c)

-- the first character is allowed, and the others do what is asked of them
abbrev pub once : (ℕ → Bool) → (List ℕ → Bool) → List ℕ → Bool
once allowed holds [] = false
once allowed holds (c ∷ others) = allowed c && holds others

-- some front of the characters, which may be empty, is allowed, and the others do what is asked of them
abbrev pub many_times : (ℕ → Bool) → (List ℕ → Bool) → List ℕ → Bool
many_times allowed holds [] = holds []
many_times allowed holds (c ∷ others) = holds (c ∷ others) || (allowed c && many_times allowed holds others)

-- nothing is left
abbrev pub is_end : List ℕ → Bool
is_end [] = true
is_end (c ∷ others) = false

-- the characters, all of them, are what the elements say one after the other
abbrev pub matches : List Element → List ℕ → Bool
matches [] characters = is_end characters
matches (element ∷ others) characters =
    if element.many
    then many_times (allows element.mark) (matches others) characters
    else once (allows element.mark) (matches others) characters

-- the profile: the pattern matches the path, by characters
abbrev pub profile_passes_pattern : List ℕ → List ℕ → Bool
profile_passes_pattern pattern path = matches (elements_of (marks_of (chars pattern))) (chars path)

-- a text as a phone reads it: the units of its UTF-16 form
abbrev pub units : List ℕ → List ℕ
units text = flat_map encode_utf16 (chars text)

-- the units of a phone's pattern; a backslash makes the next one literal, and the unit 0 at the end
abbrev pub phone_marks_of : List ℕ → List Mark
phone_marks_of [] = []
phone_marks_of (c ∷ []) =
    if c == 92
    then record { character = 0; plain = false } ∷ []
    else record { character = c; plain = true } ∷ []
phone_marks_of (c ∷ next ∷ others) =
    if c == 92
    then record { character = next; plain = false } ∷ phone_marks_of others
    else record { character = c; plain = true } ∷ phone_marks_of (next ∷ others)

-- what a phone's pattern asks for, piece by piece: everything that is left, everything up to and with the first such
-- unit, as many such units as there are, or one unit, which a dot is whatever it is
pub data Piece : Type 0 where
  Rest : Piece
  UpTo : ℕ → Piece
  Run : ℕ → Piece
  One : ℕ → Piece

-- a dot that isn't literal
abbrev pub is_plain_dot : Mark → Bool
is_plain_dot mark = mark.plain && (mark.character == 46)

-- the pieces of a pattern: a star belongs to the unit before it, and behind a plain dot to the unit after it too
abbrev pub pieces_of : List Mark → List Piece
pieces_of [] = []
pieces_of (mark ∷ []) = One mark.character ∷ []
pieces_of (mark ∷ next ∷ []) =
    if is_star next
    then (if is_plain_dot mark then Rest ∷ [] else Run mark.character ∷ [])
    else One mark.character ∷ One next.character ∷ []
pieces_of (mark ∷ next ∷ after ∷ others) =
    if is_star next
    then (if is_plain_dot mark
    then UpTo after.character ∷ pieces_of others
    else Run mark.character ∷ pieces_of (after ∷ others))
    else One mark.character ∷ pieces_of (next ∷ after ∷ others)

-- one unit is the path's, or a dot
abbrev pub is_unit : ℕ → ℕ → Bool
is_unit unit c = (unit == 46) || (unit == c)

-- what follows the first such unit does what is asked of it
abbrev pub behind : ℕ → (List ℕ → Bool) → List ℕ → Bool
behind unit holds [] = false
behind unit holds (c ∷ others) = if unit == c then holds others else behind unit holds others

-- what follows as many such units as there are
abbrev pub past_run : ℕ → List ℕ → List ℕ
past_run unit [] = []
past_run unit (c ∷ others) = if unit == c then past_run unit others else c ∷ others

-- the units are what the pieces ask for, walked once and never back; units that a run took aren't given back
abbrev pub fits : List Piece → List ℕ → Bool
fits [] path = is_end path
fits (Rest ∷ others) path = true
fits (UpTo unit ∷ others) path = behind unit (fits others) path
fits (Run unit ∷ others) [] = false
fits (Run unit ∷ others) (c ∷ path) = fits others (past_run unit (c ∷ path))
fits (One unit ∷ others) [] = false
fits (One unit ∷ others) (c ∷ path) = is_unit unit c && fits others path

-- a phone: the pattern matches the path, by the units of UTF-16
abbrev pub phone_passes_pattern : List ℕ → List ℕ → Bool
phone_passes_pattern pattern path = fits (pieces_of (phone_marks_of (units pattern))) (units path)

-- the pattern matches the path
abbrev pub passes_pattern : Rules → List ℕ → List ℕ → Bool
passes_pattern Profile pattern path = profile_passes_pattern pattern path
passes_pattern Android12 pattern path = phone_passes_pattern pattern path

-- the path passes the rule
abbrev pub passes_path : Rules → PathRule → List ℕ → Bool
passes_path rules (Literal text) path = is_same path text
passes_path rules (Prefix text) path = begins_with path text
passes_path rules (Suffix text) path = ends_with path text
passes_path rules (Pattern text) path = passes_pattern rules text path
