-- Moments that a clock tells beforehand.
use Rattle.std.specs.Prelude.{◌≡◌, ℕ, zero, suc, ◌+◌, nat_le, Option, Some, None, if◌then◌else◌}

-- the moment a step later, or the same if that would pass the greatest 64-bit number
abbrev pub advanced : ℕ → ℕ → ℕ
advanced moment step = if nat_le (moment + step) 18446744073709551615 then moment + step else moment

-- the moment that a clock of steps answers to its call of that number, counted from 0
abbrev pub moment_at : ℕ → ℕ → ℕ → ℕ
moment_at first step zero = first
moment_at first step (suc calls) = moment_at (advanced first step) step calls

-- the moment, if it is told, is the one that was answered
abbrev pub IsTold : Option ℕ → ℕ → Type 0
IsTold None moment = Unit {0}
IsTold (Some told) moment = moment ≡ told
