-- Numbers as bytes: seven bits each, the lowest first, and 128 more where others follow.
use Rattle.std.specs.Prelude.{
  ◌≡◌,
  ℕ,
  zero,
  suc,
  ◌+◌,
  ◌-◌,
  ◌*◌,
  ◌/◌,
  ◌%◌,
  ◌^◌,
  ◌≤◌,
  Bool,
  true,
  false,
  ℤ,
  pos,
  negsuc,
  List,
  [],
  ◌∷◌,
  ◌++◌,
  nat_lt,
  nat_eq,
  if◌then◌else◌,
  refl,
}
use Rattle.std.proofs.Common.{arith, ap, inl, inr}
use Rattle.std.proofs.lemmas.Bool.{cases_lt, lt-ltb, le-ltb}
use Rattle.am_packed.specs.Forms.{Form}

-- the bytes of a number that takes no more of them than so many besides the last
abbrev pub digits : ℕ → ℕ → List ℕ
digits zero n = n ∷ []
digits (suc more) n = if nat_lt n 128 then n ∷ [] else (n % 128 + 128) ∷ digits more (n / 128)

-- the number that bytes begin with, and what follows it
abbrev pub number_at : List ℕ → ℕ × List ℕ
number_at [] = (0, [])
number_at (first ∷ others) =
    if nat_lt first 128 then (first, others)
    else ((first - 128) + 128 * (number_at others).0, (number_at others).1)

pub digits_again : (more n : ℕ) (rest : List ℕ) → n ≤ more → number_at (digits more n ++ rest) ≡ (n, rest)
digits_again zero n rest le = let e : n ≡ 0 = omega arith in rw e refl
digits_again (suc more) n rest le =
    elim (cases_lt n 128) [
      | inl small ↦ rw (lt-ltb n 128 small, lt-ltb n 128 small) refl
      | inr large ↦
          let goes_on = digits_again more (n / 128) rest (omega arith) in
          let front : (n % 128 + 128) - 128 + 128 * (n / 128) ≡ n = omega arith in
          rw (le-ltb n 128 large, le-ltb (n % 128 + 128) 128 (omega arith), goes_on) (ap (λ k. (k, rest)) front)
    ]

-- a number, which is light below that limit
abbrev pub number_below : ℕ → Form ℕ
number_below limit = record {
  bytes = λ n. digits n n;
  read = number_at;
  light = λ n. nat_lt n limit;
  again = λ n rest. digits_again n n rest (omega arith);
}

-- a number of 64 bits
unfoldable pub number : Form ℕ
number = number_below (2 ^ 64)

-- a number of 32 bits
unfoldable pub short_number : Form ℕ
short_number = number_below (2 ^ 32)

-- whether so, as a byte that is 1 if it is
abbrev pub flag_bytes : Bool → List ℕ
flag_bytes true = 1 ∷ []
flag_bytes false = 0 ∷ []

-- whether the bytes begin with a 1, and what follows the first
abbrev pub flag_at : List ℕ → Bool × List ℕ
flag_at [] = (false, [])
flag_at (first ∷ others) = (nat_eq first 1, others)

pub flag_again : (so : Bool) (rest : List ℕ) → flag_at (flag_bytes so ++ rest) ≡ (so, rest)
flag_again true rest = refl
flag_again false rest = refl

-- whether so
unfoldable pub flag : Form Bool
flag = record { bytes = flag_bytes; read = flag_at; light = λ so. true; again = flag_again }

-- a whole number: a byte that is 0 if it isn't negative, then how far it is from 0, or from -1
abbrev pub whole_bytes : ℤ → List ℕ
whole_bytes (pos n) = 0 ∷ number.bytes n
whole_bytes (negsuc n) = 1 ∷ number.bytes n

-- the whole number of that sign, so far from 0, or from -1
abbrev pub signed : ℕ → ℕ → ℤ
signed sign n = if nat_eq sign 0 then pos n else negsuc n

-- the whole number of that sign, so far from 0, or from -1, as was read, and what follows it
abbrev pub signed_read : ℕ → ℕ × List ℕ → ℤ × List ℕ
signed_read sign far = (signed sign far.0, far.1)

-- the whole number that bytes begin with, and what follows it
abbrev pub whole_at : List ℕ → ℤ × List ℕ
whole_at [] = (pos 0, [])
whole_at (sign ∷ others) = signed_read sign (number.read others)

pub whole_again : (x : ℤ) (rest : List ℕ) → whole_at (whole_bytes x ++ rest) ≡ (x, rest)
whole_again (pos n) rest = rw (number.again n rest) refl
whole_again (negsuc n) rest = rw (number.again n rest) refl

-- whether a whole number is less than so far from 0, or from -1
abbrev pub is_near : ℕ → ℤ → Bool
is_near limit (pos n) = nat_lt n limit
is_near limit (negsuc n) = nat_lt n limit

-- a whole number, which is light within that limit
abbrev pub whole_within : ℕ → Form ℤ
whole_within limit = record { bytes = whole_bytes; read = whole_at; light = is_near limit; again = whole_again }

-- a whole number of 64 bits
unfoldable pub whole : Form ℤ
whole = whole_within (2 ^ 63)

-- a whole number of 32 bits
unfoldable pub short_whole : Form ℤ
short_whole = whole_within (2 ^ 31)
