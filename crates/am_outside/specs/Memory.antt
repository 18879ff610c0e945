-- Sources, sinks and files in memory, as their calls see them.
use Rattle.std.specs.Prelude.{ℕ, ◌+◌, Bool, List, min, ◌==◌}
use Rattle.std.specs.List.{list_any}

-- the call of that number, counted from 1, is one of those that fail
abbrev pub fails : List ℕ → ℕ → Bool
fails failing call = list_any (λ number. number == call) failing

-- one more, up to the greatest 64-bit number
abbrev pub one_more : ℕ → ℕ
one_more count = min (count + 1) 18446744073709551615

-- a source: what it gave and what is left, the most bytes that a read gives, the numbers of the reads that
-- fail, and how many reads there were and failed
pub record Reading : Type 0 where
  pub given : List ℕ
  pub left : List ℕ
  pub most : ℕ
  pub failing : List ℕ
  pub reads : ℕ
  pub faults : ℕ

-- a sink: what it took, how much room is left, the most bytes that a write takes, the numbers of the writes
-- that fail, and how many writes there were and failed
pub record Writing : Type 0 where
  pub taken : List ℕ
  pub room : ℕ
  pub most : ℕ
  pub failing : List ℕ
  pub writes : ℕ
  pub faults : ℕ
