-- How the elements of a pattern come off the front of its characters.
use Rattle.std.proofs.Common.{◌≡◌, ℕ, ◌<◌, ◌≤◌, ◌+◌, Bool, true, false, Option, Some, None, List, [], ◌∷◌, ◌++◌, length, map, take, get_or, set, append_assoc, refl, sym, ap, ◌∙◌, arith, chars, IsUtf8}
use Rattle.std.proofs.lemmas.List.{nil_from_length, length-map, length-take, length-append, map_more, take-set, length-set, get_or-set_same}
use Rattle.std.proofs.lemmas.Str.{chars-nil, chars_past_char, char_from_byte, byte_from_char, IsUtf8-past_char, encodes-chars, length-le-encodes}
use Rattle.std.specs.Prelude.{encode_utf8, encode_utf8_all as encodes}
use Rattle.std.specs.Str.Iter.{chars_rest, chars_steps}
use Rattle.std.specs.declared.str.Chars.{Chars}
use Rattle.am_model.specs.Paths.{Mark, Element, marks_of, elements_of}
use Rattle.am_uri.specs.declared.pattern.Element.{Element as KeptElement}
use Rattle.am_uri.specs.PathElements.{element_of, marks_left, elements_left}

-- a test has one answer
pub one_answer : (b : Bool) → b ≡ true → b ≡ false → ⊥
one_answer b first second = cc

-- no bytes spell no characters
pub chars_at_end : (bytes : List ℕ) → length bytes ≡ 0 → chars bytes ≡ []
chars_at_end bytes empty = ap chars (nil_from_length bytes empty) ∙ chars-nil

-- a character other than a backslash is a plain mark
plain_first : (c : ℕ) (others : List ℕ) → (c ≡ 92 → ⊥) → marks_of (c ∷ others) ≡ record { character = c; plain = true }
    ∷ marks_of others
plain_first c [] other = refl
plain_first c (next ∷ others) other = grind arith

pub marks-plain : (bytes rest : List ℕ) (c : ℕ) → IsUtf8 bytes → bytes ≡ encode_utf8 c ++ rest → (c ≡ 92 → ⊥)
    → marks_of (chars bytes) ≡ record { character = c; plain = true } ∷ marks_of (chars rest)
marks-plain bytes rest c text split other = ap marks_of (chars_past_char bytes rest c text split)
    ∙ plain_first c (chars rest) other

-- a backslash at the end stands for itself
pub marks-last : (bytes rest : List ℕ) (c : ℕ) → IsUtf8 bytes → bytes ≡ encode_utf8 c ++ rest → length rest ≡ 0
    → marks_of (chars bytes) ≡ record { character = c; plain = true } ∷ marks_of (chars rest)
marks-last bytes rest c text split empty = rw (chars_past_char bytes rest c text split, chars_at_end rest empty) refl

-- a backslash makes the next character literal
pub marks-escaped : (bytes middle rest : List ℕ) (c x : ℕ) → IsUtf8 bytes → bytes ≡ encode_utf8 c ++ middle
    → IsUtf8 middle → middle ≡ encode_utf8 x ++ rest → c ≡ 92 → marks_of (chars bytes)
    ≡ record { character = x; plain = false } ∷ marks_of (chars rest)
marks-escaped bytes middle rest c x text split text' split' slash = rw
    (chars_past_char bytes middle c text split, chars_past_char middle rest x text' split', slash) refl

-- a star after a mark repeats it
star_next : (mark : Mark) (others : List ℕ) → elements_of (mark ∷ marks_of (42 ∷ others))
    ≡ record { mark = mark; many = true } ∷ elements_of (marks_of others)
star_next mark others = rw (plain_first 42 others (λ wrong. omega arith)) refl

once_next : (mark : Mark) (c : ℕ) (others : List ℕ) → (c ≡ 42 → ⊥) → elements_of (mark ∷ marks_of (c ∷ others))
    ≡ record { mark = mark; many = false } ∷ elements_of (marks_of (c ∷ others))
once_next mark c [] other = grind arith
once_next mark c (next ∷ others) other = grind arith

-- the text after a step is text
pub text_past : (s t : Chars) (r : Option ℕ) → IsUtf8 (chars_rest s) → chars_steps s r t → IsUtf8 (chars_rest t)
text_past s t None text steps = rw steps.0.1 text
text_past s t (Some c) text steps = IsUtf8-past_char _ _ c text steps.0

first_there : (bytes : List ℕ) → get_or bytes 0 0 ≡ 42 → 0 < length bytes
first_there [] star = absurd (omega arith)
first_there (b ∷ others) star = omega arith

pub elements-many : (mark : Mark) (s t : Chars) (r : Option ℕ) → IsUtf8 (chars_rest s) → get_or (chars_rest s) 0 0 ≡ 42
    → chars_steps s r t → elements_of (mark ∷ marks_left s) ≡ record { mark = mark; many = true } ∷ elements_left t
elements-many mark s t None text star steps = let empty = nil_from_length (chars_rest s) steps.0.0 in let wrong : get_or
    {A = ℕ} [] 0 0 ≡ 42 = rw empty at star in absurd (omega arith)
elements-many mark s t (Some c) text star steps =
    let there : 0 < length (chars_rest s) = first_there (chars_rest s) star in
    let is_star : c ≡ 42 = char_from_byte (chars_rest s) (chars_rest t) c steps.0 (omega arith) there ∙ star in
    rw (chars_past_char _ _ c text steps.0, is_star) (star_next mark (chars (chars_rest t)))

-- the first character is a star only if the first byte is
no_star : (bytes : List ℕ) (c : ℕ) (others : List ℕ) → IsUtf8 bytes → (get_or bytes 0 0 ≡ 42 → ⊥) → chars bytes ≡ c
    ∷ others → c ≡ 42 → ⊥
no_star bytes c others text other split star =
    let whole : bytes ≡ encode_utf8 c ++ encodes others = sym (encodes-chars bytes text) ∙ ap encodes split in
    other (byte_from_char bytes (encodes others) c whole (omega arith) ∙ star)

once_cases : (mark : Mark) (characters : List ℕ) → ((c : ℕ) (others : List ℕ) → characters ≡ c ∷ others → c ≡ 42 → ⊥)
    → elements_of (mark ∷ marks_of characters) ≡ record { mark = mark; many = false }
    ∷ elements_of (marks_of characters)
once_cases mark [] other = refl
once_cases mark (c ∷ others) other = once_next mark c others (other c others refl)

pub elements-once : (mark : Mark) (bytes : List ℕ) → IsUtf8 bytes → (get_or bytes 0 0 ≡ 42 → ⊥)
    → elements_of (mark ∷ marks_of (chars bytes)) ≡ record { mark = mark; many = false }
    ∷ elements_of (marks_of (chars bytes))
elements-once mark bytes text other = once_cases mark (chars bytes) (λ c others. no_star bytes c others text other)

-- a pattern has at most as many elements as bytes
length-marks : (characters : List ℕ) → length (marks_of characters) ≤ length characters
length-marks [] = omega arith
length-marks (c ∷ []) = omega arith
length-marks (c ∷ next ∷ others) = grind (arith, length-marks others, length-marks (next ∷ others))

length-elements : (marks : List Mark) → length (elements_of marks) ≤ length marks
length-elements [] = omega arith
length-elements (mark ∷ []) = omega arith
length-elements (mark ∷ next ∷ others) = grind (arith, length-elements others, length-elements (next ∷ others))

pub length-pattern : (bytes : List ℕ) → IsUtf8 bytes → length (elements_of (marks_of (chars bytes))) ≤ length bytes
length-pattern bytes text =
    let characters = length-le-encodes (chars bytes) in
    let in_bytes : length (chars bytes) ≤ length bytes = rw (encodes-chars bytes text) at characters in
    omega (arith, length-elements (marks_of (chars bytes)), length-marks (chars bytes))

-- there is room for one more element
pub room : (elements : List KeptElement) (count : ℕ) (element : Element) (left : List Element) (bytes : List ℕ)
    → IsUtf8 bytes → map element_of (take count elements) ++ (element ∷ left) ≡ elements_of (marks_of (chars bytes))
    → length bytes ≤ length elements → count ≤ length elements → count < length elements
room elements count element left bytes text held enough within =
    let lengths = simp (length-append, length-map, length-take) at (ap length held) in
    omega (arith, lengths, length-pattern bytes text)

-- one more element
pub one_more : (elements : List KeptElement) (count : ℕ) (element : KeptElement) (left whole : List Element)
    → count < length elements → map element_of (take count elements) ++ (element_of element ∷ left) ≡ whole
    → map element_of (take (count + 1) (set elements count element)) ++ left ≡ whole
one_more elements count element left whole below held =
    let inside : count < length (set elements count element) = simp length-set below in
    rw (
      map_more element_of (set elements count element) count element inside,
      take-set elements count element,
      get_or-set_same elements count element element below,
      append_assoc,
    ) held
