-- The greatest of some uids, and what holds of the first and of the last of them.
use Rattle.std.proofs.Common.{ℕ, ◌+◌, ◌<◌, ◌≤◌, List, [], ◌∷◌, ◌++◌, max, arith}
use Rattle.std.specs.List.{AllByRecursion, fold}

-- the greatest of some is above each of them
pub max_is_above : (low : ℕ) (uids : List ℕ) → low ≤ fold max low uids
max_is_above low [] = omega arith
max_is_above low (uid ∷ uids) = let rest = max_is_above (max low uid) uids in omega arith

pub below_max : (low : ℕ) (uids : List ℕ) → AllByRecursion (λ uid. uid < fold max low uids + 1) uids
below_max low [] = tt
below_max low (uid ∷ uids) = (let rest = max_is_above (max low uid) uids in omega arith, below_max (max low uid) uids)

-- what holds of all holds of the first ones and of the last ones
pub of_first : (P : ℕ → Type 0) (xs ys : List ℕ) → AllByRecursion P (xs ++ ys) → AllByRecursion P xs
of_first P [] ys all = tt
of_first P (x ∷ xs) ys all = (all.0, of_first P xs ys all.1)

pub of_last : (P : ℕ → Type 0) (xs ys : List ℕ) → AllByRecursion P (xs ++ ys) → AllByRecursion P ys
of_last P [] ys all = all
of_last P (x ∷ xs) ys all = of_last P xs ys all.1
