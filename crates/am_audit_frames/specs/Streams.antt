-- The frames of a connection's input, and the text that may be written last.
use Rattle.std.specs.Prelude.{◌≡◌, ℕ, ◌-◌, ◌<◌, ◌==◌, ◌⊎◌, Bool, true, false, List, [], ◌∷◌, ◌++◌, drop, length, if◌then◌else◌, ⊤}
use Rattle.httparse.specs.Ascii.{space}
use Rattle.httparse.specs.Grammar.{AllPass, IsToken, is_uri_byte}
use Rattle.am_frames.specs.declared.frame.Defect.{Defect}
use Rattle.am_frames.specs.declared.frame.Defect.TheVariants.{BadHead, HeadTooLarge}
use Rattle.am_frames.specs.Head.{Frame, Outcome, whole, empty, refused, cut}
use Rattle.am_frames.specs.Framing.{HasNoHead, IsFraming, MayOverlook, window}
use Rattle.am_http.specs.Sessions.{defect_text}

-- after a frame that asks to close, and after another one
abbrev pub Behind : Bool → Type 0 → Type 0 → Type 0
Behind true ends goes_on = ends
Behind false ends goes_on = goes_on

-- these are the first frames of an input, of which so many are read at most; none comes after one that asks to close
abbrev pub AreFirst : ℕ → List ℕ → List Frame → Type 0
AreFirst most input [] = ⊤
AreFirst most input (first ∷ others) =
    (0 < most) × IsFraming input (whole first)
    × Behind first.close (others ≡ []) (AreFirst (most - 1) (drop first.length input) others)

-- a line that ends inside its target: a method, a space, and only bytes of a target
abbrev pub IsOpenLine : List ℕ → Type 0
IsOpenLine line =
    (method : List ℕ) × (target : List ℕ) × IsToken method × AllPass is_uri_byte target
    × (line ≡ method ++ space ∷ target)

-- a reader may see no whole head if no bytes can follow that make one, or may not see that yet
pub record MayBeDead (input : List ℕ) : Type 0 where
  pub none : HasNoHead (window input)
  pub overlooked : MayOverlook (window input)

-- what is written last if a reader waits for bytes that don't come, or for which the window has no room
abbrev pub waiting_text : List ℕ → List ℕ
waiting_text text = if length text == 8192 then defect_text HeadTooLarge else []

-- the text is written last at this outcome, which isn't a whole frame
abbrev pub IsWrittenAt : Outcome → List ℕ → Type 0
IsWrittenAt (whole f) last = ⊥
IsWrittenAt empty last = last ≡ []
IsWrittenAt (refused defect) last = last ≡ defect_text defect
IsWrittenAt cut last = last ≡ []

-- the text may be written last at a window that may be dead
abbrev pub IsWrittenAtDead : List ℕ → List ℕ → Type 0
IsWrittenAtDead input last = (last ≡ defect_text BadHead) ⊎ (last ≡ waiting_text (window input))

-- the input may be refused with this defect
abbrev pub MayRefuse : List ℕ → Defect → Type 0
MayRefuse input defect = IsFraming input (refused defect) ⊎ (MayBeDead input × (defect ≡ BadHead))

-- the input holds no further whole frame, and this may be written last: nothing, or the text for its defect
abbrev pub IsLast : List ℕ → List ℕ → Type 0
IsLast input last =
    ((IsFraming input empty ⊎ IsFraming input cut) × (last ≡ []))
    ⊎ ((defect : Defect) × MayRefuse input defect × (last ≡ defect_text defect))

-- these are all frames of an input, of which so many are read at most, and this may be written last
abbrev pub EndsWith : ℕ → List ℕ → List Frame → List ℕ → Type 0
EndsWith most input [] last = ((most ≡ 0) × (last ≡ [])) ⊎ ((0 < most) × IsLast input last)
EndsWith most input (first ∷ others) last =
    (0 < most) × IsFraming input (whole first)
    × Behind first.close ((others ≡ []) × (last ≡ [])) (EndsWith (most - 1) (drop first.length input) others last)
