-- The bytes of a number, one after the other.
use Rattle.std.proofs.Common.{
  ◌≡◌,
  ℕ,
  zero,
  suc,
  ◌+◌,
  ◌/◌,
  ◌%◌,
  ◌<◌,
  ◌≤◌,
  List,
  [],
  ◌∷◌,
  ◌++◌,
  refl,
  ap,
  sym,
  ◌∙◌,
  inl,
  inr,
  arith,
  append_assoc,
}
use Rattle.std.proofs.lemmas.Bool.{cases_lt, lt-ltb, le-ltb}
use Rattle.am_packed.specs.Numbers.{digits, number}

-- a number's bytes don't depend on how many it may take
same_digits : (f g n : ℕ) → n ≤ f → n ≤ g → digits f n ≡ digits g n
same_digits zero zero n f-le g-le = refl
same_digits zero (suc g) n f-le g-le = let e : n ≡ 0 = omega arith in rw e refl
same_digits (suc f) zero n f-le g-le = let e : n ≡ 0 = omega arith in rw e refl
same_digits (suc f) (suc g) n f-le g-le =
    elim (cases_lt n 128) [
      | inl small ↦ rw (lt-ltb n 128 small) refl
      | inr large ↦ rw (le-ltb n 128 large)
          (ap (λ (t : List ℕ). (n % 128 + 128) ∷ t) (same_digits f g (n / 128) (omega arith) (omega arith)))
    ]

-- a small number is its one byte
pub number_small : (n : ℕ) → n < 128 → number.bytes n ≡ n ∷ []
unfolding number
number_small zero small = refl
number_small (suc n) small = rw (lt-ltb (suc n) 128 small) refl

-- a larger one begins with its lowest seven bits
pub number_large : (n : ℕ) → 128 ≤ n → number.bytes n ≡ (n % 128 + 128) ∷ number.bytes (n / 128)
unfolding number
number_large zero large = absurd (omega arith)
number_large (suc n) large =
    rw (le-ltb (suc n) 128 large)
    (ap (λ (t : List ℕ). (suc n % 128 + 128) ∷ t)
    (same_digits n (suc n / 128) (suc n / 128) (omega arith) (omega arith)))

-- one byte more is out, and the rest is to come
pub goes_on : (out : List ℕ) (n : ℕ) → 128 ≤ n
    → (out ++ (n % 128 + 128) ∷ []) ++ number.bytes (n / 128) ≡ out ++ number.bytes n
goes_on out n large =
    append_assoc out ((n % 128 + 128) ∷ []) (number.bytes (n / 128))
    ∙ ap (λ (t : List ℕ). out ++ t) (sym (number_large n large))
