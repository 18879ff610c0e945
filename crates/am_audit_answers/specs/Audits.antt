-- What a connection's responses are held against: a history, from the state with which it begins.
use Rattle.std.specs.Prelude.{◌≡◌, ℕ, false, List, ◌++◌, Option, Some, None, ⊤}
use Rattle.std.specs.List.{AllByRecursion}
use Rattle.am_types.specs.declared.history.Entry.{Entry}
use Rattle.am_history.specs.State.{State}
use Rattle.am_frames.specs.Head.{Frame}
use Rattle.am_http.specs.Exchanges.{Exchange, IsAnswer, AreInOrder, Point, bytes_of, frames_of}

-- the state with which a history begins, and the history
pub record Ground : Type 0 where
  pub start : State
  pub history : List Entry

-- a call that isn't stored was made at moment 0; the moment of a stored call is in its entry
abbrev pub IsTimedBy : Option Point → Option ℕ → Type 0
IsTimedBy None now = ⊤
IsTimedBy (Some point) now = point.stored ≡ false → now ≡ Some 0

-- the response to a frame is one that the history has, on some desk: a connection that rested may go on at another
pub record IsAudited (ground : Ground) (e : Exchange) : Type 0 where
  pub desk : ℕ
  pub answer : IsAnswer ground.start desk ground.history e
  pub timed : IsTimedBy e.point e.now

-- the history has each of these, and along them no place is below an earlier one
pub record AreAudited (ground : Ground) (es : List Exchange) : Type 0 where
  pub each : AllByRecursion (IsAudited ground) es
  pub order : AreInOrder 0 es

-- the bytes are responses to these frames that the history has
pub record AreResponses (ground : Ground) (frames : List Frame) (bytes : List ℕ) : Type 0 where
  pub exchanges : List Exchange
  pub asked : frames_of exchanges ≡ frames
  pub audited : AreAudited ground exchanges
  pub output : bytes_of exchanges ≡ bytes

-- some first bytes are such responses
pub record BeginsAudited (ground : Ground) (frames : List Frame) (bytes : List ℕ) : Type 0 where
  pub first : List ℕ
  pub rest : List ℕ
  pub splits : bytes ≡ first ++ rest
  pub audited : AreResponses ground frames first
