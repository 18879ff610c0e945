-- When two pairs are the same, and which comes first.
use Rattle.std.proofs.Common.{◌≡◌, ℕ, ◌<◌, ◌≤◌, Bool, true, false, not, ◌&&◌, ◌||◌, cond, List, refl, arith, nat_cmp}
use Rattle.std.proofs.lemmas.Bool.Decides.{nat_tests}
use Rattle.std.specs.Prelude.{◌==◌}
use Rattle.std.specs.Ordering.{is_gt}
use Rattle.std.specs.BTreeMap.{is_at}
use Rattle.std.proofs.lemmas.Bool.{false_from_ne_true}
use Rattle.am_queue_normal.specs.Pairs.{by_both, has, is_same, IsNext, NoneFrom}

-- two numbers that are the same are one
pub same_from : (a b : ℕ) → a == b ≡ true → a ≡ b
same_from a b same = grind (arith, nat_tests)

pub is_same_as_itself : (a : ℕ) → a == a ≡ true
is_same_as_itself a = grind (arith, nat_tests)

-- a number is at another if they are the same
pub same_number : (number other : ℕ) → is_at (nat_cmp number) other ≡ (number == other)
same_number number other = grind (arith, nat_tests)

-- a pair is at another if both parts are the same
pub same_key : (key number key' number' : ℕ) → is_at (by_both (key, number)) (key', number')
    ≡ is_same key number key' number'
same_key key number key' number' = grind (arith, nat_tests)

-- a pair that isn't greater has no greater key
pub not_later : (key number key' number' : ℕ) → is_gt (by_both (key, number) (key', number')) ≡ false → key ≤ key'
not_later key number key' number' not_gt = grind (arith, nat_tests)

-- one more
pub added : (a b : Bool) → cond a true b ≡ a || b
added true b = refl
added false b = refl

-- one less
pub removed : (a b : Bool) → cond a false b ≡ not a && b
removed true b = refl
removed false b = refl

-- the pairs of a key from a number on aren't less than that pair
pub from_pair : (key from number : ℕ) → from ≤ number → is_gt (by_both (key, from) (key, number)) ≡ false
from_pair key from number up = grind (arith, nat_tests)

module _ (pairs : List (ℕ × ℕ)) (key from first second : ℕ)
    (up : is_gt (by_both (key, from) (first, second)) ≡ false)
    (least : (q : ℕ × ℕ) → is_gt (by_both (key, from) q) ≡ false → has pairs q.0 q.1 ≡ true
    → is_gt (by_both (first, second) q) ≡ false) where
  -- the least pair from a given one on, if it has the key, has the key's next number
  pub next_there : has pairs first second ≡ true → first ≡ key → IsNext (has pairs key) from second
  next_there there same = (
    higher,
    rw (← same) there,
    λ number low less. false_from_ne_true (has pairs key number) (λ is. lower number less
        (least (key, number) (from_pair key from number low) is)),
  )
    where
      higher : from ≤ second
      higher = let it : is_gt (by_both (key, from) (key, second)) ≡ false = rw same at up in grind (arith, nat_tests)

      lower : (number : ℕ) → number < second → is_gt (by_both (first, second) (key, number)) ≡ false → ⊥
      lower number less not_gt = let it : is_gt (by_both (key, second) (key, number))
          ≡ false = rw same at not_gt in grind (arith, nat_tests)

  -- if it has another key, the key has no number from there on
  pub next_other : (first ≡ key → ⊥) → NoneFrom (has pairs key) from
  next_other differs number low = false_from_ne_true (has pairs key number)
      (λ is. differs (same number (least (key, number) (from_pair key from number low) is)))
    where
      same : (number : ℕ) → is_gt (by_both (first, second) (key, number)) ≡ false → first ≡ key
      same number not_gt = grind (arith, nat_tests)
