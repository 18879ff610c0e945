-- The bits of words, one by one, and what a carry does to them.
use Rattle.std.proofs.Common.{◌≡◌, ℕ, zero, suc, ◌<◌, ◌+◌, ◌*◌, ◌/◌, ◌%◌, ◌^◌, ◌==◌, Bool, not, ◌&&◌, ◌||◌, List, [], ◌∷◌, length, bit_and, bit_or, bit_xor, min, get_or, refl, ap, sym, arith, ◌∙◌, max}
use Rattle.std.proofs.Math.Nat.{pow-suc}
use Rattle.std.proofs.lemmas.Nat.{and_shr, or_shr, xor_shr, and_le_r, and_le_l, xor_lt, div_below, shr-shr, pow_pos}
use Rattle.std.proofs.lemmas.Nat.Bits.{bit_at_lowest, bit_at_and, bit_at_or, bit_at_xor}
use Rattle.am_uri.specs.PathPlaces.{skipped, advanced}
use Rattle.am_uri.specs.PathWords.{AreWithin}

-- this many bits of a word, the lowest first, in front of others
abbrev pub bits : ℕ → ℕ → List Bool → List Bool
bits zero word behind = behind
bits (suc n) word behind = (word % 2 == 1) ∷ bits n (word / 2) behind

-- the bits of words of this width
abbrev pub flags : ℕ → List ℕ → List Bool
flags width [] = []
flags width (word ∷ words) = bits width word (flags width words)

-- the places that are reached, and those that repeated elements lead on to
abbrev pub filled : Bool → List Bool → List Bool → List Bool
filled carry repeated [] = []
filled carry [] (flag ∷ flags) = flag ∷ flags
filled carry (m ∷ repeated) (flag ∷ flags) = (flag || carry) ∷ filled ((flag || carry) && m) repeated flags

-- the places that a character leads to
abbrev pub moved : Bool → List Bool → List Bool → List Bool → List Bool
moved carry allowed repeated [] = []
moved carry [] repeated (flag ∷ flags) = flag ∷ flags
moved carry (a ∷ allowed) [] (flag ∷ flags) = flag ∷ flags
moved carry (a ∷ allowed) (m ∷ repeated) (flag ∷ flags) = (((flag && a) && m) || carry)
    ∷ moved ((flag && a) && not m) allowed repeated flags

pub half_and : (a b : ℕ) → bit_and a b / 2 ≡ bit_and (a / 2) (b / 2)
half_and a b = and_shr a b 1

pub half_or : (a b : ℕ) → bit_or a b / 2 ≡ bit_or (a / 2) (b / 2)
half_or a b = or_shr a b 1

pub half_xor : (a b : ℕ) → bit_xor a b / 2 ≡ bit_xor (a / 2) (b / 2)
half_xor a b = xor_shr a b 1

pub low_and : (a b : ℕ) → bit_and a b % 2 ≡ min (a % 2) (b % 2)
low_and a b = rw (bit_at_lowest (bit_and a b), bit_at_lowest a, bit_at_lowest b) at (bit_at_and a b 0)

pub low_or : (a b : ℕ) → bit_or a b % 2 ≡ max (a % 2) (b % 2)
low_or a b = rw (bit_at_lowest (bit_or a b), bit_at_lowest a, bit_at_lowest b) at (bit_at_or a b 0)

pub low_xor : (a b : ℕ) → bit_xor a b % 2 ≡ (a % 2 + b % 2) % 2
low_xor a b = rw (bit_at_lowest (bit_xor a b), bit_at_lowest a, bit_at_lowest b) at (bit_at_xor a b 0)

skip_low : (w m k : ℕ) → w < 2 → m < 2 → k < 2 → (max w ((((min w m + m) + k) % 2 + m) % 2) == 1) ≡ (w == 1) || (k == 1)
skip_low w m k x y z = grind (arith)

skip_carry : (w m k : ℕ) → w < 2 → m < 2 → k < 2 → (((min w m + m) + k) / 2 == 1) ≡ ((w == 1) || (k == 1)) && (m == 1)
skip_carry w m k x y z = grind (arith)

sum_half : (x y k : ℕ) → ((x + y) + k) / 2 ≡ (x / 2 + y / 2) + ((x % 2 + y % 2) + k) / 2
sum_half x y k = omega arith

sum_low : (x y k : ℕ) → ((x + y) + k) % 2 ≡ ((x % 2 + y % 2) + k) % 2
sum_low x y k = omega arith

pub div_more : (s n : ℕ) → s / 2 ^ suc n ≡ s / 2 / 2 ^ n
div_more s n = ap (λ j. s / 2 ^ j) (omega arith) ∙ sym (shr-shr s 1 n)

half_below : (m n : ℕ) → m < 2 ^ suc n → m / 2 < 2 ^ n
half_below m n narrow = omega (arith, pow-suc 2 n)

-- a carry runs up the bits of a word
skip_sum : (w m k : ℕ) → k < 2 → ((bit_and w m + m) + k) / 2 ≡ (bit_and (w / 2) (m / 2) + m / 2) +
    ((min (w % 2) (m % 2) + m % 2) + k) / 2
skip_sum w m k small = rw (sum_half (bit_and w m) m k, half_and w m, low_and w m) refl

skip_next : (w m k : ℕ) → k < 2 → bit_or w (bit_xor ((bit_and w m + m) + k) m) / 2
    ≡ bit_or (w / 2) (bit_xor ((bit_and (w / 2) (m / 2) + m / 2) + ((min (w % 2) (m % 2) + m % 2) + k) / 2) (m / 2))
skip_next w m k small = rw (
  half_or w (bit_xor ((bit_and w m + m) + k) m),
  half_xor ((bit_and w m + m) + k) m,
  skip_sum
      w m k small,
) refl

skip_first : (w m k : ℕ) → k < 2 → (bit_or w (bit_xor ((bit_and w m + m) + k) m) % 2 == 1) ≡ (w % 2 == 1) || (k == 1)
skip_first w m k small = rw (
  low_or w (bit_xor ((bit_and w m + m) + k) m),
  low_xor ((bit_and w m + m) + k) m,
  sum_low
      (bit_and w m) m k,
  low_and w m,
) (skip_low (w % 2) (m % 2) k (omega arith) (omega arith) small)

skip_none : (w m k : ℕ) → m < 2 ^ 0 → ((bit_and w m + m) + k) / 1 ≡ k
skip_none w m k narrow = omega (arith, and_le_r w m)

skip_bits : (n w m k : ℕ) (repeated flags : List Bool) → m < 2 ^ n → k < 2
    → filled (k == 1) (bits n m repeated) (bits n w flags) ≡ bits n (bit_or w (bit_xor ((bit_and w m + m) + k) m))
    (filled (((bit_and w m + m) + k) / 2 ^ n == 1) repeated flags)
skip_bits zero w m k repeated flags narrow small = ap (λ j. filled (j == 1) repeated flags)
    (sym (skip_none w m k narrow))
skip_bits (suc n) w m k repeated flags narrow small =
    let next = skip_bits n (w / 2) (m / 2) (((min (w % 2) (m % 2) + m % 2) + k) / 2) repeated flags
    (half_below m n narrow) (omega arith) in
    rw (skip_first w m k small, skip_next w m k small, div_more ((bit_and w m + m) + k) n, skip_sum w m k small)
    (ap (λ others. ((w % 2 == 1) || (k == 1)) ∷ others) (rw (skip_carry (w % 2) (m % 2) k (omega arith)
    (omega arith) small) at next))

-- a character leads up the bits of a word
go_low : (x k : ℕ) → k < 2 → (x * 2 + k) % 2 ≡ k
go_low x k small = omega arith

go_half : (x k : ℕ) → k < 2 → (x * 2 + k) / 2 ≡ x
go_half x k small = omega arith

pub parts : (x : ℕ) → x ≡ x / 2 * 2 + x % 2
parts x = omega arith

stay_bit : (w a m k : ℕ) → w < 2 → a < 2 → m < 2 → k < 2 → (max (min (min w a) m) k == 1)
    ≡ (((w == 1) && (a == 1)) && (m == 1)) || (k == 1)
stay_bit w a m k x y z u = grind (arith)

go_bit : (w a m : ℕ) → w < 2 → a < 2 → m < 2 → ((min w a + min (min w a) m) % 2 == 1)
    ≡ ((w == 1) && (a == 1)) && not (m == 1)
go_bit w a m x y z = grind (arith)

go_first : (w a m k : ℕ) → k < 2 → (bit_or (bit_and (bit_and w a) m)
    (bit_xor (bit_and w a) (bit_and (bit_and w a) m) * 2 + k) % 2 == 1)
    ≡ (((w % 2 == 1) && (a % 2 == 1)) && (m % 2 == 1)) || (k == 1)
go_first w a m k small = rw (
  low_or (bit_and (bit_and w a) m) (bit_xor (bit_and w a) (bit_and (bit_and w a) m) * 2 + k),
  go_low (bit_xor (bit_and w a) (bit_and (bit_and w a) m)) k small,
  low_and (bit_and w a) m,
  low_and w a,
)
    (stay_bit (w % 2) (a % 2) (m % 2) k (omega arith) (omega arith) (omega arith) small)

go_next : (w a m : ℕ) → bit_xor (bit_and w a) (bit_and (bit_and w a) m)
    ≡ bit_xor (bit_and (w / 2) (a / 2)) (bit_and (bit_and (w / 2) (a / 2)) (m / 2)) * 2 +
    (min (w % 2) (a % 2) + min (min (w % 2) (a % 2)) (m % 2)) % 2
go_next w a m =
    let half : bit_xor (bit_and w a) (bit_and (bit_and w a) m) / 2
    ≡ bit_xor (bit_and (w / 2) (a / 2)) (bit_and (bit_and (w / 2) (a / 2)) (m / 2)) = simp (half_xor, half_and) in
    let low : bit_xor (bit_and w a) (bit_and (bit_and w a) m) % 2 ≡
    (min (w % 2) (a % 2) + min (min (w % 2) (a % 2)) (m % 2)) % 2 = simp (low_xor, low_and) in
    omega (arith, parts (bit_xor (bit_and w a) (bit_and (bit_and w a) m)))

go_none : (w a m k : ℕ) → a < 2 ^ 0 → (bit_xor (bit_and w a) (bit_and (bit_and w a) m) * 2 + k) / 1 ≡ k
go_none w a m k narrow =
    let first : bit_and w a ≡ 0 = omega (arith, and_le_r w a) in
    let second : bit_and 0 m ≡ 0 = omega (arith, and_le_l 0 m) in
    rw (first, second) (omega arith)

go_bits : (n w a m k : ℕ) (allowed repeated flags : List Bool) → a < 2 ^ n → k < 2
    → moved (k == 1) (bits n a allowed) (bits n m repeated) (bits n w flags)
    ≡ bits n (bit_or (bit_and (bit_and w a) m) (bit_xor (bit_and w a) (bit_and (bit_and w a) m) * 2 + k))
    (moved ((bit_xor (bit_and w a) (bit_and (bit_and w a) m) * 2 + k) / 2 ^ n == 1) allowed repeated flags)
go_bits zero w a m k allowed repeated flags narrow small = ap (λ j. moved (j == 1) allowed repeated flags)
    (sym (go_none w a m k narrow))
go_bits (suc n) w a m k allowed repeated flags narrow small =
    let next = go_bits n (w / 2) (a / 2) (m / 2) ((min (w % 2) (a % 2) + min (min (w % 2) (a % 2)) (m % 2)) % 2) allowed
    repeated flags (half_below a n narrow) (omega arith) in
    let whole = rw (← go_next w a m, go_bit (w % 2) (a % 2) (m % 2) (omega arith) (omega arith) (omega arith)) at next
    in
    rw (
      go_first w a m k small,
      half_or (bit_and (bit_and w a) m) (bit_xor (bit_and w a) (bit_and (bit_and w a) m) * 2 +
          k),
      div_more (bit_xor (bit_and w a) (bit_and (bit_and w a) m) * 2 + k) n,
      go_half
          (bit_xor (bit_and w a) (bit_and (bit_and w a) m)) k small,
      half_and (bit_and w a) m,
      half_and w a,
    )
    (ap (λ others. ((((w % 2 == 1) && (a % 2 == 1)) && (m % 2 == 1)) || (k == 1)) ∷ others) whole)

-- the carry of a word is a bit
pub skip_carries : (n w m k : ℕ) → m < 2 ^ n → k < 2 → ((bit_and w m + m) + k) / 2 ^ n < 2
skip_carries n w m k narrow small = div_below ((bit_and w m + m) + k) (2 ^ n) 2 (pow_pos n)
    (omega (arith, and_le_r w m))

taken_below : (n w a m : ℕ) → a < 2 ^ n → bit_xor (bit_and w a) (bit_and (bit_and w a) m) < 2 ^ n
taken_below n w a m narrow = xor_lt n (bit_and w a) (bit_and (bit_and w a) m) (omega (arith, and_le_r w a))
    (omega (arith, and_le_r w a, and_le_l (bit_and w a) m))

pub go_carries : (n w a m k : ℕ) → a < 2 ^ n → k < 2 → (bit_xor (bit_and w a) (bit_and (bit_and w a) m) * 2 + k) / 2 ^ n
    < 2
go_carries n w a m k narrow small = div_below (bit_xor (bit_and w a) (bit_and (bit_and w a) m) * 2 + k) (2 ^ n) 2
    (pow_pos n) (omega (arith, taken_below n w a m narrow))

pub go_fits : (i k : ℕ) (words allowed repeated : List ℕ) → AreWithin 63 allowed → k < 2
    → bit_xor (bit_and (get_or words i 0) (get_or allowed i 0)) (bit_and (bit_and (get_or words i 0) (get_or allowed i 0))
    (get_or repeated i 0)) * 2 + k < 2 ^ 64
go_fits i k words allowed repeated narrow small =
    omega (arith, taken_below 63 (get_or words i 0) (get_or allowed i 0) (get_or repeated i 0) (narrow i))

-- the same in all words
pub flags_skipped : (n k : ℕ) (repeated words : List ℕ) → AreWithin n repeated → k < 2 → length repeated ≡ length words
    → flags n (skipped n k repeated words) ≡ filled (k == 1) (flags n repeated) (flags n words)
flags_skipped n k [] [] narrow small same = refl
flags_skipped n k (m ∷ repeated) [] narrow small same = absurd (omega arith)
flags_skipped n k [] (word ∷ words) narrow small same = absurd (omega arith)
flags_skipped n k (m ∷ repeated) (word ∷ words) narrow small same =
    let here : m < 2 ^ n = narrow 0 in
    let next = flags_skipped n (((bit_and word m + m) + k) / 2 ^ n) repeated words (λ j. narrow (suc j))
    (skip_carries n word m k here small) (omega arith) in
    rw (skip_bits n word m k (flags n repeated) (flags n words) here small, next) refl

pub flags_advanced : (n k : ℕ) (allowed repeated words : List ℕ) → AreWithin n allowed → k < 2 → length allowed
    ≡ length words → length repeated ≡ length words → flags n (advanced n k allowed repeated words)
    ≡ moved (k == 1) (flags n allowed) (flags n repeated) (flags n words)
flags_advanced n k [] [] [] narrow small same same' = refl
flags_advanced n k (a ∷ allowed) repeated [] narrow small same same' = absurd (omega arith)
flags_advanced n k [] (m ∷ repeated) [] narrow small same same' = absurd (omega arith)
flags_advanced n k [] repeated (word ∷ words) narrow small same same' = absurd (omega arith)
flags_advanced n k (a ∷ allowed) [] (word ∷ words) narrow small same same' = absurd (omega arith)
flags_advanced n k (a ∷ allowed) (m ∷ repeated) (word ∷ words) narrow small same same' =
    let here : a < 2 ^ n = narrow 0 in
    let next = flags_advanced n ((bit_xor (bit_and word a) (bit_and (bit_and word a) m) * 2 + k) / 2 ^ n) allowed
    repeated words (λ j. narrow (suc j)) (go_carries n word a m k here small) (omega arith) (omega arith) in
    rw (go_bits n word a m k (flags n allowed) (flags n repeated) (flags n words) here small, next) refl
