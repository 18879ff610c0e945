-- The first step over an input, exactly: which outcomes it may have.
use Rattle.std.specs.Prelude.{◌≡◌, ℕ, ◌≤◌, ◌==◌, ◌⊎◌, List, take, length, count_by, if◌then◌else◌}
use Rattle.httparse.specs.Ascii.{line_feed}
use Rattle.httparse.specs.Grammar.{RequestHead, ReadsRequest, EndsInTarget}
use Rattle.httparse.specs.Spans.{RequestOverflows}
use Rattle.am_frames.specs.declared.frame.Defect.TheVariants.{BadHead, HeadTooLarge}
use Rattle.am_frames.specs.Head.{Outcome, empty, refused, cut, head_of, after_head}

-- the most bytes of a frame: a head and a body of the greatest length
abbrev pub longest_frame : ℕ
longest_frame = 73728

-- the bytes that are looked at for a head
abbrev pub window : List ℕ → List ℕ
window bytes = take 8192 bytes

-- the text begins with this head, which has at most 64 fields
abbrev pub BeginsWithHead : List ℕ → RequestHead → Type 0
BeginsWithHead text h = (rest : List ℕ) × ReadsRequest text h rest × (length h.fields ≤ 64)

-- the text begins with no head of at most 64 fields
abbrev pub HasNoHead : List ℕ → Type 0
HasNoHead text = (h : RequestHead) → ¬ (BeginsWithHead text h)

-- whatever bytes follow, it doesn't begin with one
abbrev pub IsDead : List ℕ → Type 0
IsDead text = RequestOverflows 64 text

-- the text ends inside its target or has 65 line feeds: a reader need not see yet that it is dead
abbrev pub MayOverlook : List ℕ → Type 0
MayOverlook text = EndsInTarget text ⊎ (65 ≤ count_by (λ b. b == line_feed) text)

-- a reader may wait for more bytes: they can still give a head, or it need not see yet that they cannot
abbrev pub MayWait : List ℕ → Type 0
MayWait text = (¬ (IsDead text)) ⊎ MayOverlook text

-- the outcome if a reader waits for bytes that don't come, or for which the window has no room
abbrev pub without_head : List ℕ → Outcome
without_head text =
    if length text == 8192 then refused HeadTooLarge else (if length text == 0 then empty else cut)

-- the first step over the input has the outcome: by its head, by a window that is dead, or by one in which a reader
-- may wait
pub data IsFraming (bytes : List ℕ) (outcome : Outcome) : Type 0 where
  by_head : (h : RequestHead) → BeginsWithHead (window bytes) h → outcome ≡ after_head bytes (head_of h)
      → IsFraming bytes outcome
  by_dead : IsDead (window bytes) → outcome ≡ refused BadHead → IsFraming bytes outcome
  by_wait : HasNoHead (window bytes) → MayWait (window bytes) → outcome ≡ without_head (window bytes)
      → IsFraming bytes outcome
