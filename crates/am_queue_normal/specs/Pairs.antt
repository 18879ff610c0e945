-- Pairs of numbers in order, and what is found by number.
use Rattle.std.specs.Prelude.{◌≡◌, ℕ, ◌<◌, ◌≤◌, Bool, true, false, ◌&&◌, ◌==◌, List}
use Rattle.std.specs.List.{list_any}
use Rattle.std.specs.declared.cmp.Ordering.{Ordering}
use Rattle.std.specs.Ordering.{is_gt, nat_cmp, ordering_then}
use Rattle.std.specs.BTreeMap.{is_at}

-- the order by the first number, then by the second
abbrev pub by_both : ℕ × ℕ → ℕ × ℕ → Ordering
by_both x y = ordering_then (nat_cmp x.0 y.0) (nat_cmp x.1 y.1)

-- the pair is among them
abbrev pub has : List (ℕ × ℕ) → ℕ → ℕ → Bool
has pairs key number = list_any (is_at (by_both (key, number))) pairs

-- both pairs are the same
abbrev pub is_same : ℕ → ℕ → ℕ → ℕ → Bool
is_same key number key' number' = key == key' && number == number'

-- no pair is there
abbrev pub IsBare : List (ℕ × ℕ) → Type 0
IsBare pairs = (key number : ℕ) → has pairs key number ≡ false

-- the pair is among them, and none comes before it
abbrev pub IsLeast : List (ℕ × ℕ) → ℕ × ℕ → Type 0
IsLeast pairs least =
    (has pairs least.0 least.1 ≡ true)
    × ((key number : ℕ) → has pairs key number ≡ true → is_gt (by_both least (key, number)) ≡ false)

-- no number from a given one on passes the test
abbrev pub NoneFrom : (ℕ → Bool) → ℕ → Type 0
NoneFrom test from = (number : ℕ) → from ≤ number → test number ≡ false

-- the number is the least that passes the test, from a given one on
abbrev pub IsNext : (ℕ → Bool) → ℕ → ℕ → Type 0
IsNext test from next =
    (from ≤ next) × (test next ≡ true) × ((number : ℕ) → from ≤ number → number < next → test number ≡ false)
