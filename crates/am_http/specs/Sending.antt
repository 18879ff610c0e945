-- What writing to a sink does.
use Rattle.std.specs.Prelude.{◌≡◌, ℕ, ◌-◌, ◌<◌, ◌≤◌, List, ◌++◌, length, take, drop, Option, Result, Ok, Err}
use Rattle.std.specs.Io.KnownBytes.{Appends, Keeps}
use Rattle.am_outside.specs.declared.failure.Failed.{Failed}

-- a part of the text was written, and some of it wasn't
abbrev pub WritesPart : Option (List ℕ) → Option (List ℕ) → List ℕ → Type 0
WritesPart old new text =
    (written : List ℕ) × (missing : List ℕ)
    × (text ≡ written ++ missing) × (0 < length missing) × Appends old new written

-- the first text was written whole, and of the next one a part, but not all of it
abbrev pub StopsInside : Option (List ℕ) → Option (List ℕ) → List ℕ → List ℕ → Type 0
StopsInside old new whole next =
    (written : List ℕ) × (missing : List ℕ)
    × (next ≡ written ++ missing) × (0 < length missing) × Appends old new (whole ++ written)

-- the text was written whole, or, if the sink failed, a part of it
abbrev pub Sends : Option (List ℕ) → Option (List ℕ) → List ℕ → Result (Unit {0}) Failed → Type 0
Sends old new text (Ok done) = Appends old new text
Sends old new text (Err e) = WritesPart old new text

-- some more of the text was written, up to the next place, or nothing if the sink failed
abbrev pub SendsFrom : Option (List ℕ) → Option (List ℕ) → List ℕ → ℕ → Result ℕ Failed → Type 0
SendsFrom old new text at (Ok next) =
    (at < next) × (next ≤ length text) × Appends old new (take (next - at) (drop at text))
SendsFrom old new text at (Err e) = Keeps old new
