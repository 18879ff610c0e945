-- What reading into a window does.
use Rattle.std.specs.Prelude.{◌≡◌, ℕ, List, ◌++◌, length, Option, IfSome, Bool, true, false, Result, Ok, Err}
use Rattle.std.specs.Io.KnownBytes.{Consumes, Keeps, IsAtEnd, prepend_known}
use Rattle.am_frames.specs.declared.frame.Found.{Found}
use Rattle.am_frames.specs.declared.frame.Found.TheVariants as Spans
use Rattle.am_frames.specs.Framing.{IsFraming}
use Rattle.am_frames.specs.FrameSpans.{outcome_at, IsFoundWithin}
use Rattle.am_outside.specs.declared.failure.Failed.{Failed}

-- the bytes that were read follow those that were there, and the source gave them: none only at its end.
-- If it failed, all stays
abbrev pub Fills : List ℕ → List ℕ → Option (List ℕ) → Option (List ℕ) → Result ℕ Failed → Type 0
Fills old new left left' (Ok count) =
    (got : List ℕ) × (length got ≡ count) × (new ≡ old ++ got) × Consumes left left' got × (count ≡ 0 → IsAtEnd left')
Fills old new left left' (Err e) = (new ≡ old) × Keeps left left'

-- the bytes that the source gave follow those that were there
abbrev pub Reads : List ℕ → List ℕ → Option (List ℕ) → Option (List ℕ) → Type 0
Reads old new left left' = (got : List ℕ) × (new ≡ old ++ got) × Consumes left left' got

-- what was found is the first step over the window's bytes, and over all that is left if the source tells it
pub record Finds (w : List ℕ) (left : Option (List ℕ)) (found : Found) : Type 0 where
  pub here : IsFraming w (outcome_at w found)
  pub told : IfSome (prepend_known w left) (λ input. IsFraming input (outcome_at w found))
  pub within : IsFoundWithin (length w) found

-- more bytes can tell another outcome
abbrev pub is_open : Found → Bool
is_open (Spans.Whole s) = false
is_open Spans.Empty = true
is_open (Spans.Refused defect) = false
is_open Spans.Cut = true
