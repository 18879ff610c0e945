-- Lists into which an item is put in its place.
use Rattle.std.specs.Prelude.{ℕ, ◌+◌, ℤ, int_lt, Bool, List, [], ◌∷◌, if◌then◌else◌}
use Rattle.std.specs.List.{AllByRecursion}

module _ {X : Type 0} (before : X → X → Bool) where
  -- the others with one more, in front of the first that it belongs before
  abbrev pub inserted : X → List X → List X
  inserted x [] = x ∷ []
  inserted x (first ∷ others) = if before x first then x ∷ first ∷ others else first ∷ inserted x others

  -- how many of the others are in front of it there
  abbrev pub place_of : X → List X → ℕ
  place_of x [] = 0
  place_of x (first ∷ others) = if before x first then 0 else place_of x others + 1

module _ {X : Type 0} (before : X → X → Bool) where
  -- the others with one more, behind those that come before it and in front of the rest
  abbrev pub placed : X → List X → List X
  placed x [] = x ∷ []
  placed x (first ∷ others) = if before first x then first ∷ placed x others else x ∷ first ∷ others

  -- all in that order; ties keep their order
  abbrev pub ordered : List X → List X
  ordered [] = []
  ordered (first ∷ others) = placed first (ordered others)

module _ {X : Type 0} (priority : X → ℤ) where
  -- the others with one more, in front of those of no greater priority and after the rest
  abbrev pub place_by : X → List X → List X
  place_by x [] = x ∷ []
  place_by x (first ∷ others) =
      if int_lt (priority x) (priority first) then first ∷ place_by x others else x ∷ first ∷ others

  -- all by falling priority; ties keep their order
  abbrev pub falling_by : List X → List X
  falling_by [] = []
  falling_by (first ∷ others) = place_by first (falling_by others)

-- each item is related so to every one after it
abbrev pub AscendsBy : {X : Type 0} → (X → X → Type 0) → List X → Type 0
AscendsBy before [] = Unit {0}
AscendsBy before (first ∷ others) = AllByRecursion (before first) others × AscendsBy before others
