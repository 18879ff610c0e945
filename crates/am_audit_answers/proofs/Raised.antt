-- A frame whose response says a place of its call is judged from that place on.
use Rattle.std.proofs.Common.{◌≡◌, ℕ, ◌<◌, ◌≤◌, ◌^◌, Bool, List, length, sym, ap, ◌∙◌, subst, arith}
use Rattle.std.specs.Prelude.{Option, Some, None, Result, Ok, Err, IfOk}
use Rattle.am_types.specs.declared.failure.NoMemory.{NoMemory}
use Rattle.am_types.specs.declared.history.Entry.{Entry}
use Rattle.am_types.specs.declared.request.Request.{Request}
use Rattle.am_history.specs.State.{State}
use Rattle.am_http.specs.Exchanges.{Exchange, IsAbove, Point, floor_after}
use Rattle.am_frames.specs.Head.{Frame}
use Rattle.am_http.specs.Requests.{request_of}
use Rattle.am_audit_history.specs.Replays.{Replay}
use Rattle.am_audit_answers.specs.declared.judging.Accepted.{Accepted}
use Rattle.am_audit_answers.specs.Judged.{Judges, Stands, case_of, ground_of}
use Rattle.am_audit_answers.specs.Judging.{Accepts, Answers, Case, Refuses}
use Rattle.am_audit_answers.specs.Marks.{SaysOnly}
use Rattle.am_audit_answers.specs.Matching.{GoesTo, IsRecord, IsReplayed}
use Rattle.am_audit_answers.proofs.Placed.{each_placed}

-- the case from a place on
abbrev from : Case → ℕ → Case
from c floor = record c { floor = floor }

module _ (c : Case) (request : Request) (point : Point) (asks : request_of c.frame ≡ Ok request)
    (says : SaysOnly c.left point.at point.stored)
    (short : length c.ground.history < 2 ^ 64) (few : length c.left < 2 ^ 64) where
  -- an exchange's point is the one that the bytes say
  at_point : (e : Exchange) (rest : List ℕ) → Answers c e rest → e.point ≡ Some point
  at_point e rest answers = (each_placed c request point asks says short few e rest answers).placed

  at_point_from : (floor : ℕ) (e : Exchange) (rest : List ℕ) → Answers (from c floor) e rest → e.point
      ≡ Some point
  at_point_from floor e rest answers = (each_placed (from c floor) request point asks says short few e rest
      answers).placed

  -- so it isn't below any floor up to there
  above : (floor : ℕ) (o : Option Point) → o ≡ Some point → floor ≤ point.at → IsAbove floor o
  above floor o is low = subst (IsAbove floor) (sym is) low

  raise : (floor : ℕ) (e : Exchange) (rest : List ℕ) → floor ≤ point.at → Answers c e rest
      → Answers (from c floor) e rest
  raise floor e rest low answers = record {
    frame = answers.frame;
    audited = answers.audited;
    above = above floor e.point (at_point e rest answers) low;
    bytes = answers.bytes;
  }

  lower : (floor : ℕ) (e : Exchange) (rest : List ℕ) → c.floor ≤ point.at
      → Answers (from c floor) e rest → Answers c e rest
  lower floor e rest low answers = record {
    frame = answers.frame;
    audited = answers.audited;
    above = above c.floor e.point (at_point_from floor e rest answers) low;
    bytes = answers.bytes;
  }

  -- the floor behind an exchange there doesn't depend on that before it
  same_floor : (one other : ℕ) (o : Option Point) → o ≡ Some point → floor_after one o ≡ floor_after other o
  same_floor one other o is = ap (floor_after one) is ∙ sym (ap (floor_after other) is)

  accepted_lower : (floor after : ℕ) (left : List ℕ) → floor ≤ point.at → c.floor ≤ point.at
      → Accepts (from c floor) after left → Accepts c after left
  accepted_lower floor after left high low accepts = record {
    exchange = accepts.exchange;
    answers = lower floor accepts.exchange left low accepts.answers;
    floor = same_floor c.floor floor accepts.exchange.point there ∙ accepts.floor;
    only = λ e rest answers.
        let leads = accepts.only e rest (raise floor e rest high answers) in
        (leads.0, same_floor c.floor floor e.point (at_point e rest answers) ∙ leads.1);
  }
    where
      there : accepts.exchange.point ≡ Some point
      there = at_point_from floor accepts.exchange left accepts.answers

  -- what is judged from a floor up to there on is judged so
  judged_lower : (floor : ℕ) (result : Option Accepted) → floor ≤ point.at → c.floor ≤ point.at
      → Judges (from c floor) result → Judges c result
  judged_lower floor (Some accepted) high low judged = record {
    accepts = accepted_lower floor _ _ high low judged.accepts;
    taken = judged.taken;
    start = judged.start;
    replayed = judged.replayed;
  }
  judged_lower floor None high low judged = λ e rest answers. judged e rest
      (raise floor e rest high answers)

  -- there is none where the place can't be gone to
  refuses_there : (c.floor ≤ point.at → point.at ≤ length c.ground.history → ⊥) → Refuses c
  refuses_there never e rest answers =
      let p = each_placed c request point asks says short few e rest answers in
      never (subst (IsAbove c.floor) p.placed answers.above) p.marked.within

-- a frame whose response says a place is judged once the history is replayed up to it
raised : (history : List Entry) (replayed : Replay) (frame : Frame) (left : List ℕ) (request : Request) (at : ℕ)
    (stored : Bool) (after : Replay)
    (result : Option Accepted) → request_of frame ≡ Ok request → SaysOnly left at stored → length history < 2 ^ 64
    → length left < 2 ^ 64
    → GoesTo (ground_of history replayed) replayed at (Some after)
    → Judges (case_of history after frame left) result
    → Judges (case_of history replayed frame left) result
raised history replayed frame left request at stored after result asks says short few goes judged =
    let c : Case = case_of history replayed frame left in
    let start : State → Type 0 = λ s. Judges (record {
      ground = record { start = s; history = history };
      floor = length after.history;
      frame = frame;
      left = left;
    }) result in
    judged_lower c request (record { at = at; stored = stored }) asks says short few (length after.history) result
    (omega (arith, goes.1)) goes.2
    (subst start goes.0.start judged)

pub raised_if : (history : List Entry) (replayed : Replay) (frame : Frame) (left : List ℕ) (request : Request) (at : ℕ)
    (stored : Bool) (after : Replay)
    (result : Result (Option Accepted) NoMemory) → request_of frame ≡ Ok request → SaysOnly left at stored
    → length history < 2 ^ 64 → length left < 2 ^ 64
    → GoesTo (ground_of history replayed) replayed at (Some after)
    → IfOk result (λ judged. Judges (case_of history after frame left)
    judged)
    → IfOk result (λ judged. Judges (case_of history replayed frame left) judged)
raised_if history replayed frame left request at stored after (Ok judged) asks says short few goes is =
    raised history replayed frame left request at stored after judged asks says short few goes is
raised_if history replayed frame left request at stored after (Err ran_out) asks says short few goes is = tt

-- or there is none if it can't be
pub unreached : (history : List Entry) (replayed : Replay) (frame : Frame) (left : List ℕ) (request : Request) (at : ℕ)
    (stored : Bool)
    → request_of frame ≡ Ok request → SaysOnly left at stored → length history < 2 ^ 64 → length left < 2 ^ 64
    → GoesTo (ground_of history replayed) replayed at None → Refuses (case_of history replayed frame left)
unreached history replayed frame left request at stored asks says short few goes =
    refuses_there (case_of history replayed frame left) request (record { at = at; stored = stored }) asks says short few
    goes

-- an audit has come there too
pub stands_there : (history : List Entry) (replayed : Replay) (at : ℕ) (after : Replay) → Stands history replayed
    → GoesTo (ground_of history replayed) replayed at (Some after)
    → Stands history after
stands_there history replayed at after stands goes = record {
  made = subst (λ (s : State). IsRecord (record { start = s; history = history })) (sym goes.0.start) stands.made;
  first = subst (λ (s : State). IsReplayed (record { start = s; history = history }) after) (sym goes.0.start) goes.0;
}
