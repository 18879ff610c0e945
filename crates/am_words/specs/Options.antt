-- The options after a command's name, in words.
use Rattle.std.specs.Prelude.{ℕ, Bool, true, false, not, ◌&&◌, ◌==◌, if◌then◌else◌, List, [], ◌∷◌, ◌++◌, find, Option, Some, None, option_map, option_and_then, bytes_eq}
use Rattle.std.specs.List.{list_all, list_any, before_first, after_first}

abbrev pub Text : Type 0
Text = List ℕ

-- options in the order in which they are given, each with its name and its value
abbrev pub Options : Type 0
Options = List (Text × Text)

-- the word begins with a hyphen (45)
abbrev pub begins_with_hyphen : Text → Bool
begins_with_hyphen [] = false
begins_with_hyphen (first ∷ others) = first == 45

-- `name` or `name=VALUE`, as the name and the value after the first `=` (61)
abbrev pub name_and_value : Text → Text × Option Text
name_and_value text = (
  before_first (λ x. x == 61) text,
  if list_any (λ x. x == 61) text then Some (after_first (λ x. x == 61) text) else None,
)

-- the name and the value of `--name` or `--name=VALUE`; no other word is an option, not even `--`
abbrev pub option_word : Text → Option (Text × Option Text)
option_word [] = None
option_word (a ∷ []) = None
option_word (a ∷ b ∷ []) = None
option_word (a ∷ b ∷ c ∷ others) = if a == 45 && b == 45 then Some (name_and_value (c ∷ others)) else None

-- an option in front of others
abbrev pub with_option : Text → Text → Option Options → Option Options
with_option name value others = option_map (λ options. (name, value) ∷ options) others

-- the option in the last word, which must contain its value
abbrev pub last_option : Option (Text × Option Text) → Option Options
last_option None = None
last_option (Some (name, Some value)) = Some ((name, value) ∷ [])
last_option (Some (name, None)) = None

-- the option in a word, with its value in it or as the next word, which then doesn't begin with a hyphen; the options
-- after it are those from the next word on, or those after the next word
abbrev pub first_option : Option (Text × Option Text) → Text → Option Options → Option Options → Option Options
first_option None next from_next behind = None
first_option (Some (name, Some value)) next from_next behind = with_option name value from_next
first_option (Some (name, None)) next from_next behind =
    if begins_with_hyphen next then None else with_option name next behind

-- the options in words: `--name=VALUE` is one word, `--name` and VALUE are two
unfoldable pub options_in : List Text → Option Options
options_in [] = Some []
options_in (word ∷ []) = last_option (option_word word)
options_in (word ∷ next ∷ others) =
    first_option (option_word word) next (options_in (next ∷ others)) (options_in others)

abbrev pub is_given : Text → Options → Bool
is_given name options = list_any (λ option. bytes_eq option.0 name) options

-- no option repeats an earlier one
abbrev pub none_repeats : Options → Options → Bool
none_repeats before [] = true
none_repeats before (option ∷ others) =
    not (is_given option.0 before) && none_repeats (before ++ option ∷ []) others

abbrev pub is_among : List Text → Text → Bool
is_among names name = list_any (λ known. bytes_eq known name) names

-- the options, if they are all among these names and none occurs twice
abbrev pub allowed : List Text → Options → Option Options
allowed names options =
    if list_all (λ option. is_among names option.0) options && none_repeats [] options then Some options else None

-- the options in the words of a command whose options have these names
unfoldable pub options_of : List Text → List Text → Option Options
options_of names words = option_and_then (allowed names) (options_in words)

-- the value of the option with this name
abbrev pub value_of : Options → Text → Option Text
value_of options name = option_map (λ option. option.1) (find (λ option. bytes_eq option.0 name) options)
