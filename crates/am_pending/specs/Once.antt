-- At most one item of a list passes a test.
use Rattle.std.specs.Prelude.{◌≡◌, Bool, true, false, List, [], ◌∷◌}
use Rattle.std.specs.List.{list_any}

-- if an item passes, no later one does
abbrev pub AtMostOne : {X : Type 0} → (X → Bool) → List X → Type 0
AtMostOne test [] = Unit {0}
AtMostOne test (x ∷ xs) = (test x ≡ true → list_any test xs ≡ false) × AtMostOne test xs
