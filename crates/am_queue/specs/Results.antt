-- The results that wait for their senders.
use Rattle.std.specs.Prelude.{◌≡◌, ℕ, ◌+◌, ◌<◌, ◌≤◌, ◌==◌, List, [], ◌∷◌, length, filter, slice_index_or}
use Rattle.am_model.specs.Broadcasts as broadcasts

-- the results that wait, and for how many more there is room
pub record Waiting : Type 0 where
  pub list : List broadcasts.Result
  pub room : ℕ

-- the delivery numbers of results rise, from a given one on and up to an end
abbrev pub AreRising : ℕ → ℕ → List broadcasts.Result → Type 0
AreRising from end [] = from ≤ end
AreRising from end (first ∷ others) = (from ≤ first.delivery) × AreRising (first.delivery + 1) end others

-- the results with this delivery number
abbrev pub of_number : ℕ → List broadcasts.Result → List broadcasts.Result
of_number number results = filter (λ (r : broadcasts.Result). r.delivery == number) results

-- the result at a place is the only one with this delivery number
abbrev pub IsOnly : ℕ → List broadcasts.Result → ℕ → Type 0
IsOnly number results place =
    (place < length results)
    × ((d : broadcasts.Result) → of_number number results ≡ slice_index_or results place d ∷ [])
