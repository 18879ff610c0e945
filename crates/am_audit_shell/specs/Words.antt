-- The words of an audit.
use Rattle.std.specs.Prelude.{ℕ, Bool, not, ◌&&◌, ◌==◌, false, codes, List, [], ◌∷◌, if◌then◌else◌, Option, Some, None}
use Rattle.am_model.specs.Texts.{is_same}

-- the files that the words name
pub record Named : Type 0 where
  pub device : List ℕ
  pub history : List ℕ
  pub frames : List ℕ
  pub responses : List ℕ

-- a word can be a file's name: it has bytes, and no first `-`
abbrev pub is_file : List ℕ → Bool
is_file [] = false
is_file (first ∷ others) = not (first == 45)

-- an option with its file
abbrev pub is_option : List ℕ → List ℕ → List ℕ → Bool
is_option word name file = is_same word name && is_file file

-- the files, if the words are the four options in their order
abbrev pub named_by : List (List ℕ) → Option Named
named_by (a ∷ device ∷ b ∷ history ∷ c ∷ frames ∷ d ∷ responses ∷ []) =
    if (is_option a (codes "--device") device && is_option b (codes "--history") history)
    && (is_option c (codes "--frames") frames && is_option d (codes "--responses") responses)
    then Some (record { device = device; history = history; frames = frames; responses = responses })
    else None
named_by _ = None
