-- How a character is found among those of a pattern, bit by bit.
use Rattle.std.proofs.Common.{◌≡◌, ℕ, zero, suc, ◌<◌, ◌+◌, ◌*◌, ◌/◌, ◌%◌, ◌^◌, ◌==◌, Bool, not, ◌&&◌, ◌||◌, List, [], ◌∷◌, take, drop, bit_and, bit_or, bit_xor, min, set, refl, sym, arith, ◌∙◌, cond, max}
use Rattle.std.proofs.Math.Nat.{div-eq_of_lt}
use Rattle.std.proofs.lemmas.Nat.{shr-shr}
use Rattle.am_model.specs.Paths.{Element}
use Rattle.am_uri.specs.declared.bits.Test.TheVariants.{Allows, Wild, Bit, Below}
use Rattle.am_uri.specs.PathElements.{allowed_at}
use Rattle.am_uri.specs.PathRows.{test_of, both, without, either}
use Rattle.am_uri.specs.PathWords.{word_where, words_where, passes}
use Rattle.am_uri.proofs.PathBits.{half_and, half_or, half_xor, low_and, low_or, low_xor}
use Rattle.am_uri.proofs.PathWords.{half_where}

-- the element's character has the same bits from this one on
abbrev pub is_above : ℕ → ℕ → Element → Bool
is_above b c element = element.mark.character / 2 ^ b == c / 2 ^ b

-- words of two tests
bit_both : (a b : Bool) → min (cond a 1 0) (cond b 1 0) ≡ cond (a && b) 1 0
bit_both a b = grind arith

bit_either : (a b : Bool) → max (cond a 1 0) (cond b 1 0) ≡ cond (a || b) 1 0
bit_either a b = grind arith

bit_without : (a b : Bool) → (cond a 1 0 + min (cond a 1 0) (cond b 1 0)) % 2 ≡ cond (a && not b) 1 0
bit_without a b = grind arith

bit_low : (w : ℕ) (a : Bool) → (w * 2 + cond a 1 0) % 2 ≡ cond a 1 0
bit_low w a = grind arith

-- a number from its half and its lowest bit
from_half : (x h l : ℕ) → x / 2 ≡ h → x % 2 ≡ l → x ≡ h * 2 + l
from_half x h l half low = omega arith

low_without : (x y : ℕ) → bit_xor x (bit_and x y) % 2 ≡ (x % 2 + min (x % 2) (y % 2)) % 2
low_without x y = simp (low_xor, low_and)

half_without : (x y : ℕ) → bit_xor x (bit_and x y) / 2 ≡ bit_xor (x / 2) (bit_and (x / 2) (y / 2))
half_without x y = simp (half_xor, half_and)

-- an operation on numbers that joins their bits joins the tests of two words, and of two rows of words
module _ (op low : ℕ → ℕ → ℕ) (joined : Bool → Bool → Bool) (none : op 0 0 ≡ 0)
    (halves : (x y : ℕ) → op x y / 2 ≡ op (x / 2) (y / 2)) (lows : (x y : ℕ) → op x y % 2 ≡ low (x % 2) (y % 2))
    (bits : (a b : Bool) → low (cond a 1 0) (cond b 1 0) ≡ cond (joined a b) 1 0)
  where
    word_joined : (p q : Element → Bool) (elements : List Element)
        → op (word_where p elements) (word_where q elements) ≡ word_where (λ e. joined (p e) (q e)) elements
    word_joined p q [] = none
    word_joined p q (e ∷ others) = from_half _ _ _
        (halves (word_where p (e ∷ others)) (word_where q (e ∷ others))
        ∙ rw (half_where (word_where p others) (p e), half_where (word_where q others) (q e)) (word_joined p q others))
        (lows (word_where p (e ∷ others)) (word_where q (e ∷ others))
        ∙ rw (bit_low (word_where p others) (p e), bit_low (word_where q others) (q e)) (bits (p e) (q e)))

    words_joined : (rows : List ℕ → List ℕ → List ℕ) → rows [] [] ≡ []
        → ((r word : ℕ) (row words : List ℕ) → rows (r ∷ row) (word ∷ words) ≡ op word r ∷ rows row words)
        → (p q : Element → Bool) (n count : ℕ) (elements : List Element)
        → rows (words_where n q count elements) (words_where n p count elements)
        ≡ words_where n (λ e. joined (p e) (q e)) count elements
    words_joined rows empty more p q n zero elements = empty
    words_joined rows empty more p q n (suc count) elements =
        more (word_where q (take n elements)) (word_where p (take n elements)) (words_where n q count (drop n elements))
        (words_where n p count (drop n elements))
        ∙ rw (word_joined p q (take n elements), words_joined rows empty more p q n count (drop n elements)) refl

words_both : (p q : Element → Bool) (n count : ℕ) (elements : List Element)
    → both (words_where n q count elements) (words_where n p count elements)
    ≡ words_where n (λ e. p e && q e) count elements
words_both = words_joined bit_and min (λ a b. a && b) refl half_and low_and bit_both both refl
    (λ r word row words. refl)

words_either : (p q : Element → Bool) (n count : ℕ) (elements : List Element)
    → either (words_where n q count elements) (words_where n p count elements)
    ≡ words_where n (λ e. p e || q e) count elements
words_either = words_joined bit_or max (λ a b. a || b) refl half_or low_or bit_either either refl
    (λ r word row words. refl)

words_without : (p q : Element → Bool) (n count : ℕ) (elements : List Element)
    → without (words_where n q count elements) (words_where n p count elements)
    ≡ words_where n (λ e. p e && not (q e)) count elements
words_without = words_joined (λ x y. bit_xor x (bit_and x y)) (λ x y. (x + min x y) % 2) (λ a b. a && not b) refl
    half_without low_without bit_without without refl (λ r word row words. refl)

-- tests that agree mark the same elements
word_same : (p q : Element → Bool) (elements : List Element) → ((e : Element) → p e ≡ q e) → word_where p elements
    ≡ word_where q elements
word_same p q [] same = refl
word_same p q (e ∷ others) same = rw (same e, word_same p q others same) refl

words_same : (p q : Element → Bool) (n count : ℕ) (elements : List Element) → ((e : Element) → p e ≡ q e)
    → words_where n p count elements ≡ words_where n q count elements
words_same p q n zero elements same = refl
words_same p q n (suc count) elements same = rw (
  word_same p q (take n elements) same,
  words_same p q n count
      (drop n elements) same,
) refl

-- a character is found by one bit more
bit_set : (x y : ℕ) → y % 2 ≡ 1 → (x / 2 == y / 2) && (x % 2 == 1) ≡ (x == y)
bit_set x y set = grind arith

bit_clear : (x y : ℕ) → (y % 2 ≡ 1 → ⊥) → (x / 2 == y / 2) && not (x % 2 == 1) ≡ (x == y)
bit_clear x y clear = grind arith

above_more : (x b : ℕ) → x / 2 ^ (b + 1) ≡ x / 2 ^ b / 2
above_more x b = sym (shr-shr x b 1)

above_set : (b c : ℕ) (e : Element) → c / 2 ^ b % 2 ≡ 1 → is_above (b + 1) c e && passes (Bit b) e ≡ is_above b c e
above_set b c e set = rw (above_more e.mark.character b, above_more c b)
    (bit_set (e.mark.character / 2 ^ b) (c / 2 ^ b) set)

above_clear : (b c : ℕ) (e : Element) → (c / 2 ^ b % 2 ≡ 1 → ⊥) → is_above (b + 1) c e && not (passes (Bit b) e)
    ≡ is_above b c e
above_clear b c e clear = rw (above_more e.mark.character b, above_more c b)
    (bit_clear (e.mark.character / 2 ^ b) (c / 2 ^ b) clear)

mod_small : (b : ℕ) → b < 21 → b % 32 ≡ b
mod_small b below = omega arith

div_below_pow : (c b : ℕ) → c < 2 ^ b → c / 2 ^ b ≡ 0
div_below_pow c b below = div-eq_of_lt below

bool_turn : (a w d : Bool) → d ≡ a → (d || w) ≡ (w || a)
bool_turn a w d e = grind arith

-- the row of a bit
bit_row : (b : ℕ) → b < 21 → test_of b ≡ Bit b
bit_row b below = grind (arith, mod_small)

-- the row of an ASCII character
pub letter_row : (k c : ℕ) → k ≡ 24 + c → test_of k ≡ Allows c
letter_row k c at = grind arith

-- where a bit of the character is set, its row keeps those that are the same from it on
pub set_left : (count b c : ℕ) (elements : List Element) → c / 2 ^ b % 2 ≡ 1
    → both (words_where 63 (passes (Bit b)) count elements) (words_where 63 (is_above (b + 1) c) count elements)
    ≡ words_where 63 (is_above b c) count elements
set_left count b c elements set =
    words_both (is_above (b + 1) c) (passes (Bit b)) 63 count elements
    ∙ words_same (λ e. is_above (b + 1) c e && passes (Bit b) e) (is_above b c) 63 count elements
    (λ e. above_set b c e set)

-- where it isn't, those that aren't in its row are left
pub clear_left : (count b c : ℕ) (elements : List Element) → (c / 2 ^ b % 2 ≡ 1 → ⊥)
    → without (words_where 63 (passes (Bit b)) count elements) (words_where 63 (is_above (b + 1) c) count elements)
    ≡ words_where 63 (is_above b c) count elements
clear_left count b c elements clear =
    words_without (is_above (b + 1) c) (passes (Bit b)) 63 count elements
    ∙ words_same (λ e. is_above (b + 1) c e && not (passes (Bit b) e)) (is_above b c) 63 count elements
    (λ e. above_clear b c e clear)

-- so a step by a bit leaves those that are the same from it on
pub found_by : (left : List ℕ → List ℕ → List ℕ) (count b above c : ℕ) (elements : List Element)
    (row words made : List ℕ) → above ≡ b + 1 → b < 21
    → left (words_where 63 (passes (Bit b)) count elements) (words_where 63 (is_above (b + 1) c) count elements)
    ≡ words_where 63 (is_above b c) count elements
    → row ≡ words_where 63 (passes (test_of b)) count elements → words
    ≡ words_where 63 (is_above above c) count elements → made ≡ left row words
    → made ≡ words_where 63 (is_above b c) count elements
found_by left count b above c elements row words made next below is at_row held done =
    rw (done, rw (bit_row b below) at at_row, rw next at held) is

-- at the start no bit from there on is set
start_same : (b c : ℕ) (e : Element) → c < 2 ^ b → passes (Below b) e ≡ is_above b c e
start_same b c e below = rw (div_below_pow c b below) refl

pub found_start : (count b c : ℕ) (elements : List Element) → c < 2 ^ b
    → words_where 63 (passes (Below b)) count elements ≡ words_where 63 (is_above b c) count elements
found_start count b c elements below = words_same (passes (Below b)) (is_above b c) 63 count elements
    (λ e. start_same b c e below)

-- at the end every bit is the same; if the element is wild, it allows each character
end_same : (c : ℕ) (e : Element) → (is_above 0 c e || passes Wild e) ≡ allowed_at c e
end_same c e = bool_turn (e.mark.character == c) (e.mark.plain && (e.mark.character == 46))
    (e.mark.character / 1 == c / 1) (grind arith)

pub found_end : (count c : ℕ) (elements : List Element) (row words made : List ℕ) → row
    ≡ words_where 63 (passes Wild) count elements → words ≡ words_where 63 (is_above 0 c) count elements → made
    ≡ either row words → made ≡ words_where 63 (allowed_at c) count elements
found_end count c elements row words made at_row held done =
    rw (done, at_row, held) (words_either (is_above 0 c) (passes Wild) 63 count elements
    ∙ words_same (λ e. is_above 0 c e || passes Wild e) (allowed_at c) 63 count elements (λ e. end_same c e))
