-- How an ordered broadcast runs: who had it, which answers came in which order, and what its result is.
use Rattle.std.specs.Prelude.{◌≡◌, ℕ, Bool, true, false, not, ◌&&◌, List, [], ◌∷◌, ◌++◌, Some, All, Option}
use Rattle.std.specs.List.{AllZip}
use Rattle.am_types.specs.declared.intent.Intent.{Intent}
use Rattle.am_types.specs.declared.broadcast.Spot.{Spot}
use Rattle.am_types.specs.declared.broadcast.Answer.{Answer}
use Rattle.am_types.specs.declared.broadcast.Ordered.{Ordered}
use Rattle.am_types.specs.declared.broadcast.Outcome.{Outcome}
use Rattle.am_types.specs.declared.history.Entry.{Entry}
use Rattle.am_types.specs.declared.request.Request.TheVariants as asks
use Rattle.am_model.specs.Gates.{is_privileged}
use Rattle.am_model.specs.Receivers.{is_protected, receivers}
use Rattle.am_model.specs.Broadcasts.{Broadcasts, InTurn, Past, Result, Doing, Answered, Late, Gone, fold_outcome, doings, is_over}
use Rattle.am_model.specs.Sending.{in_turn}
use Rattle.am_history.specs.State.{State}
use Rattle.am_history.specs.BroadcastCalls.{sending_of}
use Rattle.am_laws.specs.Access.{Deed, Sends, Once}
use Rattle.am_laws_courses.specs.Course.{course_of, course_after, finishing}

-- what a receiver answered, followed by what others answered
abbrev pub with_answer : Spot → Doing → List (Spot × Answer) → List (Spot × Answer)
with_answer spot (Answered answer) others = (spot, answer) ∷ others
with_answer spot Late others = others
with_answer spot Gone others = others

-- what the receivers that are past answered, in their order; those that were late or went away answered nothing
abbrev pub answers_of : List Past → List (Spot × Answer)
answers_of [] = []
answers_of (p ∷ others) = with_answer p.spot p.doing (answers_of others)

-- the entry is that answer: the receiver's uid finished a delivery with it
pub record IsAnswerBy (given : Spot × Answer) (at : Entry) : Type 0 where
  pub kept : at.kept ≡ true
  pub uid : at.uid ≡ given.0.uid
  pub delivery : ℕ
  pub request : at.request ≡ asks.Finish delivery given.1

-- the broadcast, as it begins, is sent to all that are admitted, to be received in order
pub record IsSentInOrder (begun : InTurn) (state : State) (deed : Deed) : Type 0 where
  pub permission : Option (List ℕ)
  pub ordered : Ordered
  pub is : deed ≡ Sends begun.sender begun.intent permission (Some ordered)
  pub unprotected : is_protected state.board.protected begun.intent.action && not (is_privileged begun.sender) ≡ false
  pub begins : begun
      ≡ in_turn state.broadcasts.next_broadcast
      (sending_of state begun.sender begun.intent (Some ordered)
      (receivers state.board begun.intent begun.sender permission))
      ordered

-- what stays of an ordered broadcast: its number, its sender, its intent, whether no abort counts, and its first
-- outcome
abbrev pub lasting : InTurn → ℕ × ℕ × Intent × Bool × Outcome
lasting b = (b.number, b.sender, b.intent, b.no_abort, b.initial)

-- the broadcast was sent by an entry; its receivers that are past, with what they did, and those that are left are
-- what the later entries made of those to which it was sent; and its answers are the entries of the history that
-- finished its deliveries, all of them and in their order, each by the receiver's uid
pub record IsInCourse (opening : State) (history : List Entry) (b : InTurn) : Type 0 where
  pub begun : InTurn
  pub sent : Once opening history (IsSentInOrder begun)
  pub stays : lasting b ≡ lasting begun
  pub wanted : b.wanted ≡ true → begun.wanted ≡ true
  pub course : course_of b
      ≡ course_after opening begun.number (sent.before ++ sent.at ∷ []) sent.after (course_of begun)
  pub answers : AllZip IsAnswerBy (answers_of b.past) (finishing opening begun.number [] history)

-- the result belongs to a broadcast that ended: it is what its answers, one after the other, made of its first outcome
pub record IsOutcome (opening : State) (history : List Entry) (r : Result) : Type 0 where
  pub of : InTurn
  pub course : IsInCourse opening history of
  pub over : is_over of ≡ true
  pub wanted : of.wanted ≡ true
  pub number : r.broadcast ≡ of.number
  pub sender : r.sender ≡ of.sender
  pub outcome : r.outcome ≡ fold_outcome of.initial of.no_abort (doings of)

-- this holds for each ordered broadcast, and that for each result
pub record OfCourses (C : InTurn → Type 0) (R : Result → Type 0) (all : Broadcasts) : Type 0 where
  pub foreground : All C all.foreground
  pub background : All C all.background
  pub results : All R all.results
