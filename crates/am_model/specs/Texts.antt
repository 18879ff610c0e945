-- Texts as lists of bytes.
use Rattle.std.specs.Prelude.{ℕ, Bool, List, map, nat_eq}
use Rattle.std.specs.List.{list_any, starts_with, ends_with as list_ends_with}
use Rattle.std.specs.Cmp.Lexicographic.{pointwise, slice_cmp}
use Rattle.std.specs.Ordering.{nat_cmp, is_lt}
use Rattle.std.specs.Char.{to_ascii_lowercase}

-- two texts are the same
abbrev pub is_same : List ℕ → List ℕ → Bool
is_same = pointwise nat_eq

-- the text is listed
abbrev pub lists : List (List ℕ) → List ℕ → Bool
lists texts text = list_any (λ listed. is_same listed text) texts

-- the first text begins with the second
abbrev pub begins_with : List ℕ → List ℕ → Bool
begins_with text start = starts_with nat_eq text start

-- the first text ends with the second
abbrev pub ends_with : List ℕ → List ℕ → Bool
ends_with text end = list_ends_with nat_eq text end

-- the first text comes before the second by bytes
abbrev pub is_before : List ℕ → List ℕ → Bool
is_before text other = is_lt (slice_cmp nat_cmp text other)

-- the text with its ASCII letters in lower case
abbrev pub lowered : List ℕ → List ℕ
lowered text = map to_ascii_lowercase text
