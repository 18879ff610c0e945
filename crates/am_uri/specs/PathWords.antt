-- Words with a bit for each element of a pattern; the lowest bit is the first element's.
use Rattle.std.specs.Prelude.{ℕ, zero, suc, ◌+◌, ◌*◌, ◌/◌, ◌^◌, ◌<◌, Bool, ◌==◌, ◌%◌, List, [], ◌∷◌, take, drop, cond, slice_index}
use Rattle.am_model.specs.Paths.{Element, allows}
use Rattle.am_uri.specs.PathElements.{is_wild}
use Rattle.am_uri.specs.declared.bits.Test.{Test}
use Rattle.am_uri.specs.declared.bits.Test.TheVariants.{Repeated, Allows, Wild, Bit, Below}

-- the element passes the test
abbrev pub passes : Test → Element → Bool
passes Repeated element = element.many
passes (Allows c) element = allows element.mark c
passes Wild element = is_wild element.mark
passes (Bit b) element = element.mark.character / 2 ^ b % 2 == 1
passes (Below b) element = element.mark.character / 2 ^ b == 0

-- the test shifts a character by less than its width in bits
abbrev pub IsShift : Test → Type 0
IsShift Repeated = Unit {0}
IsShift (Allows c) = Unit {0}
IsShift Wild = Unit {0}
IsShift (Bit b) = b < 32
IsShift (Below b) = b < 32

-- each word is below two to the width
abbrev pub AreWithin : ℕ → List ℕ → Type 0
AreWithin width words = (k : ℕ) → slice_index words k < 2 ^ width

-- a bit for each element, set where the test holds
abbrev pub word_where : (Element → Bool) → List Element → ℕ
word_where test [] = 0
word_where test (element ∷ others) = word_where test others * 2 + cond (test element) 1 0

-- this many words of a width, with a bit for each element
abbrev pub words_where : ℕ → (Element → Bool) → ℕ → List Element → List ℕ
words_where width test zero elements = []
words_where width test (suc n) elements = word_where test (take width elements)
    ∷ words_where width test n (drop width elements)
