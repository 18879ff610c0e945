-- Rows of a pattern: the words of the tests that find the elements for a character.
use Rattle.std.specs.Prelude.{ℕ, ◌<◌, ◌≤◌, ◌==◌, nat_lt, ◌-◌, ◌%◌, ◌≡◌, if◌then◌else◌, List, [], ◌∷◌, take, length, slice_index_or, bit_and, bit_or, bit_xor}
use Rattle.am_model.specs.Paths.{Element}
use Rattle.am_uri.specs.declared.bits.Test.{Test}
use Rattle.am_uri.specs.declared.bits.Test.TheVariants.{Allows, Wild, Bit, Below}
use Rattle.am_uri.specs.PathWords.{passes, words_where}

-- the test of a row: that the character has a certain bit, that it has no bit from the 7th or from the 21st on, that
-- every character is allowed, or that a certain ASCII character is
abbrev pub test_of : ℕ → Test
test_of k =
    if k == 21 then Below 7
    else if k == 22 then Below 21
    else if k == 23 then Wild
    else if nat_lt 23 k then Allows (k - 24)
    else Bit (k % 32)

-- the first words of each row are those of the elements that pass its test
abbrev pub AreRows : List Element → List (List ℕ) → Type 0
AreRows elements rows = (k m : ℕ) → k < length rows → m ≤ 17 → take m (slice_index_or rows k [])
    ≡ words_where 63 (passes (test_of k)) m elements

-- the bits that are in the words and in the row
abbrev pub both : List ℕ → List ℕ → List ℕ
both row [] = []
both [] (word ∷ words) = word ∷ words
both (r ∷ row) (word ∷ words) = bit_and word r ∷ both row words

-- the bits that are in the words but not in the row
abbrev pub without : List ℕ → List ℕ → List ℕ
without row [] = []
without [] (word ∷ words) = word ∷ words
without (r ∷ row) (word ∷ words) = bit_xor word (bit_and word r) ∷ without row words

-- the bits that are in the words or in the row
abbrev pub either : List ℕ → List ℕ → List ℕ
either row [] = []
either [] (word ∷ words) = word ∷ words
either (r ∷ row) (word ∷ words) = bit_or word r ∷ either row words
