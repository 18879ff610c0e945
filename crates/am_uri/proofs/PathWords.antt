-- The words of a test, one bit for each element.
use Rattle.std.proofs.Common.{◌≡◌, ℕ, zero, suc, ◌<◌, ◌+◌, ◌*◌, ◌/◌, ◌%◌, ◌^◌, ◌-◌, ◌==◌, Bool, true, false, List, [], ◌∷◌, length, map, take, drop, min, set, ◌++◌, append_assoc, refl, ap, arith, ◌≤◌, cond}
use Rattle.std.proofs.Math.Nat.{pow-suc}
use Rattle.std.proofs.Math.Seq.{take-nil, drop-nil}
use Rattle.std.proofs.lemmas.List.{take_more_set, take-map, drop-map, length-take}
use Rattle.std.proofs.lemmas.Nat.{pow_pos}
use Rattle.am_model.specs.Paths.{Element}
use Rattle.am_uri.specs.declared.pattern.Element.{Element as KeptElement}
use Rattle.am_uri.specs.PathElements.{element_of}
use Rattle.am_uri.specs.PathWords.{AreWithin, word_where, words_where}

-- a word has at most as many bits as there are elements
pub word_below : (test : Element → Bool) (n : ℕ) (elements : List Element) → length elements ≤ n
    → word_where test elements < 2 ^ n
word_below test n [] short = pow_pos n
word_below test zero (element ∷ others) short = absurd (omega arith)
word_below test (suc n) (element ∷ others) short = grind (arith, word_below test n others (omega arith), pow-suc 2 n)

pub words_below : (test : Element → Bool) (n count : ℕ) (elements : List Element)
    → AreWithin n (words_where n test count elements)
words_below test n zero elements k = pow_pos n
words_below test n (suc count) elements zero = word_below test n (take n elements)
    (omega (arith, length-take n elements))
words_below test n (suc count) elements (suc k) = words_below test n count (drop n elements) k

pub length-words_where : (test : Element → Bool) (n count : ℕ) (elements : List Element)
    → length (words_where n test count elements) ≡ count
length-words_where test n zero elements = refl
length-words_where test n (suc count) elements = ap suc (length-words_where test n count (drop n elements))

-- a bit for a test
pub low_where : (w : ℕ) (b : Bool) → ((w * 2 + cond b 1 0) % 2 == 1) ≡ b
low_where w true = grind arith
low_where w false = grind arith

pub half_where : (w : ℕ) (b : Bool) → (w * 2 + cond b 1 0) / 2 ≡ w
half_where w true = omega arith
half_where w false = omega arith

-- the first words of a test
pub take-words_where : (test : Element → Bool) (n count m : ℕ) (elements : List Element) → m ≤ count
    → take m (words_where n test count elements) ≡ words_where n test m elements
take-words_where test n count zero elements within = refl
take-words_where test n zero (suc m) elements within = absurd (omega arith)
take-words_where test n (suc count) (suc m) elements within = ap (λ others. word_where test (take n elements) ∷ others)
    (take-words_where test n count m (drop n elements) (omega arith))

-- a front of at most this many
take_cut : (n cut : ℕ) (xs : List KeptElement) → cut ≡ min (length xs) n → take cut xs ≡ take n xs
take_cut zero cut xs e = let none : cut ≡ 0 = omega arith in ap (λ j. take j xs) none
take_cut (suc n) cut [] e = take-nil cut
take_cut (suc n) zero (x ∷ xs) e = absurd (omega arith)
take_cut (suc n) (suc cut) (x ∷ xs) e = ap (λ others. x ∷ others) (take_cut n cut xs (omega arith))

drop_cut : (n cut : ℕ) (xs : List KeptElement) → cut ≡ min (length xs) n → drop cut xs ≡ drop n xs
drop_cut zero cut xs e = let none : cut ≡ 0 = omega arith in ap (λ j. drop j xs) none
drop_cut (suc n) cut [] e = drop-nil cut
drop_cut (suc n) zero (x ∷ xs) e = absurd (omega arith)
drop_cut (suc n) (suc cut) (x ∷ xs) e = drop_cut n cut xs (omega arith)

-- one word more is written
pub write_on : (n : ℕ) (test : Element → Bool) (i cut word : ℕ) (words whole : List ℕ)
    (left front behind : List KeptElement) → i < length words
    → take i words ++ words_where n test (length words - i) (map element_of left) ≡ whole
    → cut ≡ min (length left) n → front ≡ take cut left → behind ≡ drop cut left → word
    ≡ word_where test (map element_of front)
    → take (i + 1) (set words i word) ++ words_where n test (length words - (i + 1)) (map element_of behind) ≡ whole
write_on n test i cut word words whole left front behind inside held cuts at_front at_behind made =
    let one : length words - i ≡ suc (length words - (i + 1)) = omega arith in
    let split = rw one at held in
    let is_word : word ≡ word_where test (take n (map element_of left)) = rw
    (take-map element_of n left, ← take_cut n cut left cuts, ← at_front) made in
    let is_left : map element_of behind ≡ drop n (map element_of left) = rw
    (drop-map element_of n left, ← drop_cut n cut left cuts, ← at_behind) refl in
    rw (take_more_set words i word inside, append_assoc, is_left, is_word) split

-- the words of a test are narrow
pub within_of : (n : ℕ) (test : Element → Bool) (count : ℕ) (elements : List Element) (words : List ℕ) → words
    ≡ words_where n test count elements → AreWithin n words
within_of n test count elements words there = rw there (words_below test n count elements)
