-- How far the audit of a connection has come.
use Rattle.std.specs.Prelude.{◌≡◌, ℕ, ◌+◌, ◌-◌, ◌<◌, false, List, [], ◌∷◌, ◌++◌, drop, length, Result, Ok, Err}
use Rattle.am_types.specs.declared.history.Entry.{Entry}
use Rattle.am_frames.specs.Head.{Frame, whole}
use Rattle.am_frames.specs.Framing.{IsFraming}
use Rattle.am_http.specs.Exchanges.{Exchange, bytes_of, floor_of, frames_of}
use Rattle.am_http.specs.Sessions.{most_frames}
use Rattle.am_audit_answers.specs.Audits.{AreAudited, Ground}
use Rattle.am_audit_answers.specs.Matching.{IsReplayed}
use Rattle.am_audit_frames.specs.declared.audit.Verdict.{Verdict}
use Rattle.am_audit_frames.specs.declared.audit.Walk.{Walk}
use Rattle.am_audit_frames.specs.Verdicts.{IsVerdict, Transcript}

-- these are first frames of an input, of which so many are read at most; none asks to close, and the remaining bytes
-- follow them
abbrev pub Passes : ℕ → List ℕ → List Frame → List ℕ → Type 0
Passes most input [] rest = rest ≡ input
Passes most input (first ∷ others) rest =
    (0 < most) × IsFraming input (whole first) × (first.close ≡ false)
    × Passes (most - 1) (drop first.length input) others rest

-- a place in a connection: the frames before it, the least place in the history of the next call, and the responses
-- that are left
pub record Place : Type 0 where
  pub frames : List Frame
  pub floor : ℕ
  pub left : List ℕ

-- the history has these exchanges; the responses are theirs, and then come the remaining bytes
pub record Begin (ground : Ground) (t : Transcript) (es : List Exchange) (rest : List ℕ) : Type 0 where
  pub audited : AreAudited ground es
  pub splits : t.responses ≡ bytes_of es ++ rest

-- the responses begin with exchanges of the frames before the place, and all such exchanges lead there
pub record Reaches (ground : Ground) (t : Transcript) (place : Place) : Type 0 where
  pub exchanges : List Exchange
  pub asked : frames_of exchanges ≡ place.frames
  pub begin : Begin ground t exchanges place.left
  pub floor : floor_of 0 exchanges ≡ place.floor
  pub only : (es : List Exchange) (rest : List ℕ) → frames_of es ≡ place.frames → Begin ground t es rest
      → (rest ≡ place.left) × (floor_of 0 es ≡ place.floor)

-- the history, from the state with which a walk's replay begins
abbrev pub ground_at : List Entry → Walk → Ground
ground_at history walk = record { start = walk.replayed.start; history = history }

-- a walk has come to a place after so many first frames
pub record Walked (ground : Ground) (t : Transcript) (walk : Walk) : Type 0 where
  pub frames : List Frame
  pub counted : walk.count ≡ length frames
  pub passes : Passes most_frames t.frames frames walk.input.now
  pub reaches : Reaches ground t
      (record { frames = frames; floor = length walk.replayed.history; left = walk.left.now })
  pub start : walk.replayed.start ≡ ground.start
  pub replayed : IsReplayed ground walk.replayed

-- a walk went on over one more frame, or the audit's verdict is known
abbrev pub GoesOn : Ground → Transcript → Walk → Result Walk Verdict → Type 0
GoesOn ground t walk (Ok after) = Walked ground t after × (after.count ≡ walk.count + 1)
GoesOn ground t walk (Err verdict) = IsVerdict ground t verdict
