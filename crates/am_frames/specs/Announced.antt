-- How long the first frame of an input is, as the bytes that came of it announce.
use Rattle.std.specs.Prelude.{◌≡◌, ℕ, ◌<◌, ◌≤◌, List, ◌++◌, length}
use Rattle.httparse.specs.Grammar.{RequestHead}
use Rattle.am_frames.specs.declared.announced.Announced.{Announced}
use Rattle.am_frames.specs.declared.announced.Announced.TheVariants.{Unknown, Known, Refused}
use Rattle.am_frames.specs.declared.frame.Defect.{Defect}
use Rattle.am_frames.specs.Head.{Frame, whole, refused, cut}
use Rattle.am_frames.specs.Framing.{window, BeginsWithHead, HasNoHead, MayWait, IsFraming}

-- the bytes hold the head of a frame of n bytes: whatever follows, that is the first frame of the input, whole once n
-- bytes are there, and cut off before that
pub record HasLength (bytes : List ℕ) (n : ℕ) : Type 0 where
  pub head : (h : RequestHead) × BeginsWithHead (window bytes) h
  pub once_there : (more : List ℕ) → n ≤ length (bytes ++ more)
      → (frame : Frame) × (frame.length ≡ n) × IsFraming (bytes ++ more) (whole frame)
  pub until_then : (more : List ℕ) → length (bytes ++ more) < n → IsFraming (bytes ++ more) cut

-- whatever follows the bytes, the input is refused for one defect
abbrev pub IsRefused : List ℕ → Type 0
IsRefused bytes = (defect : Defect) × ((more : List ℕ) → IsFraming (bytes ++ more) (refused defect))

-- the bytes hold no head, a reader may wait for more of them, and there is room for more of a head
abbrev pub IsInHead : List ℕ → Type 0
IsInHead bytes = HasNoHead (window bytes) × MayWait (window bytes) × (length bytes < 8192)

-- what the bytes announce
abbrev pub IsAnnounced : List ℕ → Announced → Type 0
IsAnnounced bytes Unknown = IsInHead bytes
IsAnnounced bytes (Known n) = HasLength bytes n
IsAnnounced bytes Refused = IsRefused bytes
