-- The places in a pattern that a path has reached, and the places that these lead to.
use Rattle.std.specs.Prelude.{ℕ, Bool, false, ◌+◌, ◌*◌, ◌/◌, ◌^◌, ◌&&◌, ◌||◌, List, [], ◌∷◌, bit_and, bit_or, bit_xor}
use Rattle.am_model.specs.Paths.{Element, matches, is_end}

-- from some place that is reached, the elements after it match the characters
abbrev pub some_matches : List Element → List Bool → List ℕ → Bool
some_matches elements [] characters = false
some_matches [] (flag ∷ flags) characters = flag && is_end characters
some_matches (element ∷ others) (flag ∷ flags) characters =
    (flag && matches (element ∷ others) characters) || some_matches others flags characters

-- the words of the places that are reached, with the places that repeated elements lead to, and with a carry from the
-- previous word
abbrev pub skipped : ℕ → ℕ → List ℕ → List ℕ → List ℕ
skipped width carry repeated [] = []
skipped width carry [] (word ∷ words) = word ∷ words
skipped width carry (m ∷ repeated) (word ∷ words) =
    bit_or word (bit_xor ((bit_and word m + m) + carry) m) ∷ skipped width (((bit_and word m + m) + carry) / 2 ^ width)
    repeated words

-- the words of the places that a character leads to, with a carry from the previous word
abbrev pub advanced : ℕ → ℕ → List ℕ → List ℕ → List ℕ → List ℕ
advanced width carry allowed repeated [] = []
advanced width carry [] repeated (word ∷ words) = word ∷ words
advanced width carry (a ∷ allowed) [] (word ∷ words) = word ∷ words
advanced width carry (a ∷ allowed) (m ∷ repeated) (word ∷ words) =
    bit_or (bit_and (bit_and word a) m) (bit_xor (bit_and word a) (bit_and (bit_and word a) m) * 2 + carry)
    ∷ advanced width ((bit_xor (bit_and word a) (bit_and (bit_and word a) m) * 2 + carry) / 2 ^ width) allowed repeated
    words
