-- Counts of faults.
use Rattle.std.specs.Prelude.{ℕ, ◌+◌, ◌≤◌, min}

-- the count rose; one that stands at the greatest 64-bit number counts as risen
abbrev pub HasRisen : ℕ → ℕ → Type 0
HasRisen old new = min (old + 1) 18446744073709551615 ≤ new
