-- A text cut at its first slash.
use Rattle.std.proofs.Common.{◌≡◌, ℕ, suc, ◌+◌, ◌==◌, Bool, true, false, cond, not, ◌||◌, List, [], ◌∷◌, take, drop, Option, Some, None, refl, ap, arith, ◌∙◌, if◌then◌else◌}
use Rattle.std.specs.List.{list_any, position_or_len, before_first, after_first}
use Rattle.am_wire_intents.specs.Components.{parts_of, with_first}

-- the cut that `split_once` makes
abbrev pub cut : List ℕ → Option (List ℕ × List ℕ)
cut text = if list_any (λ b. b == 47) text then Some (before_first (λ b. b == 47) text, after_first (λ b. b == 47) text)
    else None

-- the first byte of a cut's front
pushed : (b : ℕ) (some : Bool) (front back : List ℕ) → cond some (Some (b ∷ front, back)) None
    ≡ with_first b (cond some (Some (front, back)) None)
pushed b true front back = refl
pushed b false front back = refl

pub parts_of_cut : (text : List ℕ) → cut text ≡ parts_of text
parts_of_cut [] = refl
parts_of_cut (b ∷ bytes) = by (b == 47) (parts_of_cut bytes)
  where
    by : (test : Bool) → cut bytes ≡ parts_of bytes
        → cond (test || list_any (λ c. c == 47) bytes) (Some (
          take
              (cond (not test) (1 + position_or_len (λ c. c == 47) bytes) 0) (b ∷ bytes),
          drop
              (cond (not test) (1 + position_or_len (λ c. c == 47) bytes) 0 + 1) (b ∷ bytes),
        )) None
        ≡ cond test (Some ([], bytes)) (with_first b (parts_of bytes))
    by true h = refl
    by false h =
        let at = position_or_len (λ c. c == 47) bytes in
        let one : 1 + at ≡ suc at = omega arith in
        let two : suc at + 1 ≡ suc (at + 1) = omega arith in
        rw (one, two) (pushed b (list_any (λ c. c == 47) bytes) (take at bytes) (drop (at + 1) bytes)
        ∙ ap (with_first b) h)
