-- The lines of a text.
use Rattle.std.proofs.Common.{◌≡◌, ℕ, suc, ◌-◌, List, [], ◌∷◌, length, refl, ap, ◌∙◌, arith}
use Rattle.std.specs.Prelude.{Option, Some, None, slice_get, if◌then◌else◌}
use Rattle.am_audit_history.specs.Histories.{is_newline, last_line}

-- how many lines end with that byte, if it is the last one, and no newline
abbrev pub by_last : Option ℕ → ℕ
by_last None = 0
by_last (Some b) = if is_newline b then 0 else 1

-- the last line, by the last byte
pub last_line_is : (bytes : List ℕ) → last_line bytes ≡ by_last (slice_get bytes (length bytes - 1))
last_line_is [] = refl
last_line_is (b ∷ []) = refl
last_line_is (b ∷ c ∷ bytes) =
    let place : suc (length (c ∷ bytes) - 1) ≡ length (b ∷ c ∷ bytes) - 1 = omega arith in
    last_line_is (c ∷ bytes) ∙ ap by_last (ap (slice_get (b ∷ c ∷ bytes)) place)
