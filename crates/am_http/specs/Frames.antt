-- The frames of an input, one after the other.
use Rattle.std.specs.Prelude.{◌≡◌, ℕ, List, [], ◌∷◌, drop, Option, Some, None, ⊤}
use Rattle.am_frames.specs.Head.{Frame, whole}
use Rattle.am_frames.specs.Framing.{IsFraming}

-- the input is these whole frames, and then the rest
abbrev pub Splits : List ℕ → List Frame → List ℕ → Type 0
Splits input [] rest = input ≡ rest
Splits input (first ∷ others) rest = IsFraming input (whole first) × Splits (drop first.length input) others rest

-- the same of an input that may not be told; a told one leaves a told rest
abbrev pub Leaves : Option (List ℕ) → List Frame → Option (List ℕ) → Type 0
Leaves None frames rest = ⊤
Leaves (Some input) frames None = ⊥
Leaves (Some input) frames (Some rest) = Splits input frames rest

-- the told rest begins with this frame, and then goes on as told
abbrev pub Drops : Option (List ℕ) → Frame → Option (List ℕ) → Type 0
Drops None frame rest = ⊤
Drops (Some input) frame None = ⊥
Drops (Some input) frame (Some rest) = IsFraming input (whole frame) × (rest ≡ drop frame.length input)
