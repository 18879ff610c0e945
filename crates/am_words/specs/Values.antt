-- The values of options.
use Rattle.std.specs.Prelude.{ℕ, Bool, ◌&&◌, if◌then◌else◌, nat_le, length, [], ◌∷◌, Option, Some, None, option_and_then, option_map}
use Rattle.std.specs.List.{list_all}
use Rattle.std.specs.Char.{is_ascii_digit}
use Rattle.std.specs.Str.Parse.{digits_value}
use Rattle.am_words.specs.Options.{Text}
use Rattle.am_words.specs.declared.command.StepWords.{StepWords}

infixl 10 ◌>>=◌
abbrev pub ◌>>=◌ : {A B : Type 0} → Option A → (A → Option B) → Option B
o >>= read = option_and_then read o

-- the text of 1 to 20 digits, of a number that has 64 bits
abbrev pub is_number : Text → Bool
is_number text = nat_le 1 (length text) && (nat_le (length text) 20
    && (list_all is_ascii_digit text && nat_le (digits_value 10 text) 18446744073709551615))

unfoldable pub number_of : Text → Option ℕ
number_of text = if is_number text then Some (digits_value 10 text) else None

-- the number in a value, which is required and is between these two
unfoldable pub number_in : ℕ → ℕ → Option Text → Option ℕ
number_in least most value = do
  text ← value
  number ← number_of text
  if nat_le least number && nat_le number most then Some number else None

-- an optional number
unfoldable pub optional_number_in : ℕ → ℕ → Option Text → Option (Option ℕ)
optional_number_in least most None = Some None
optional_number_in least most (Some text) = option_map (λ number. Some number) (number_in least most (Some text))

abbrev pub nonempty : Text → Option Text
nonempty [] = None
nonempty (first ∷ others) = Some (first ∷ others)

-- the name of a file, which is required and isn't empty
unfoldable pub path_of : Option Text → Option Text
path_of value = option_and_then nonempty value

-- the optional name of a file
unfoldable pub optional_path_of : Option Text → Option (Option Text)
optional_path_of None = Some None
optional_path_of (Some text) = option_map (λ path. Some path) (nonempty text)

-- the optional moment at which a clock stays
unfoldable pub moment_of : Option Text → Option (Option ℕ)
moment_of None = Some None
moment_of (Some text) = option_map (λ moment. Some moment) (number_of text)

-- the first moment and the step of a clock, both or neither
unfoldable pub clock_of : Option Text → Option Text → Option (Option StepWords)
clock_of None None = Some None
clock_of (Some at) (Some step) = do
  first ← number_of at
  between ← number_of step
  Some (Some (record { at = first; step = between }))
clock_of (Some at) None = None
clock_of None (Some step) = None
