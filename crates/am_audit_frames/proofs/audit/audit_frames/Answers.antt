use Rattle.std.proofs.Common.{◌≡◌, ℕ, List, [], length, refl, sym, ap, ◌∙◌, subst, arith, Result}
use Rattle.std.proofs.lemmas.Bool.{eq-eqb, eqb-true}
use Rattle.std.proofs.lemmas.List.{nil_from_length}
use Rattle.am_types.specs.declared.history.Entry.{Entry}
use Rattle.am_history.specs.State.{State, opening}
use Rattle.am_audit_history.specs.Replays.{Replay}
use Rattle.am_audit_answers.specs.Audits.{Ground}
use Rattle.am_audit_frames.specs.declared.audit.Verdict.{Verdict}
use Rattle.am_audit_frames.specs.declared.audit.Walk.{Walk}
use Rattle.am_audit_frames.specs.Verdicts.{IsVerdict, Transcript}
use Rattle.am_audit_frames.specs.Walks.{GoesOn, Walked, ground_at}
use Rattle.am_audit_frames.proofs.Reached.{reaches_none}
use Rattle.am_audit_frames.proofs.Steps.{settles_at_limit}
use Rattle.am_audit_frames.proofs.audit.audit_frames.Goals as goal

-- what a connection told: its frames, and the responses to them
abbrev told : List ℕ → List ℕ → Transcript
told frames responses = record { frames = frames; responses = responses }

-- what a step promises from the start of its own replay holds from the start of the walk
goes_from : (start : State) (history : List Entry) (t : Transcript) (walk : Walk) (next : Result Walk Verdict)
    {found : Result Walk Verdict}
    → Walked (record { start = start; history = history }) t walk
    → ((u : Transcript) → Walked (ground_at history walk) u walk → GoesOn (ground_at history walk) u walk next)
    → next ≡ found → GoesOn (record { start = start; history = history }) t walk found
goes_from start history t walk next w goes is =
    subst (GoesOn (record { start = start; history = history }) t walk) is
    (subst (λ (s : State). GoesOn (record { start = s; history = history }) t walk next) w.start
    (goes t (subst (λ (s : State). Walked (record { start = s; history = history }) t walk) (sym w.start) w)))

pub loop-walk-init : goal.loop-walk-init
loop-walk-init c =
    let ground : Ground = record { start = opening c.args.device; history = c.args.history.now } in
    let t = told c.args.frames.now c.args.responses.now in
    let walk_of : Replay → Walk = λ r. record {
      replayed = r;
      input = c.args.frames;
      left = c.args.responses;
      count = 0;
    } in
    let begin : Walked ground t (walk_of (record { start = ground.start; history = [] })) = record {
      frames = [];
      counted = refl;
      passes = refl;
      reaches = reaches_none ground t;
      start = refl;
      replayed = record { start = refl; within = omega arith; first = refl };
    } in
    record {
      walked = subst (λ (r : Replay). Walked ground t (walk_of r)) (sym c.in_ok-replayed.ensures.begun) begin;
      few = omega arith;
    }

pub loop-walk-smaller : goal.loop-walk-smaller
loop-walk-smaller c =
    let after =
    goes_from (opening c.args.device) c.args.history.now (told c.args.frames.now c.args.responses.now)
    c.loop-walk.walk c.in_ok-after.field-0 c.loop-walk.invariant.walked c.in_ok-after.ensures c.in-Ok.is in
    omega (arith, after.1, c.loop-walk-test.true)

pub loop-walk-preserved : goal.loop-walk-preserved
loop-walk-preserved c =
    let after =
    goes_from (opening c.args.device) c.args.history.now (told c.args.frames.now c.args.responses.now)
    c.loop-walk.walk c.in_ok-after.field-0 c.loop-walk.invariant.walked c.in_ok-after.ensures c.in-Ok.is in
    record { walked = after.0; few = omega (arith, after.1, c.loop-walk-test.true) }

pub returns-in-Err : goal.returns-in-Err
returns-in-Err c =
    goes_from (opening c.args.device) c.args.history.now (told c.args.frames.now c.args.responses.now)
    c.loop-walk.walk c.in_ok-after.field-0 c.loop-walk.invariant.walked c.in_ok-after.ensures c.in-Err.is

pub returns : goal.returns
returns c =
    let ground : Ground = record { start = opening c.args.device; history = c.args.history.now } in
    let t = told c.args.frames.now c.args.responses.now in
    let walk = c.loop-walk.walk in
    let w = c.loop-walk.invariant.walked in
    let left = walk.left.now in
    subst (IsVerdict ground t) (sym c.ended.ensures)
    (settles_at_limit ground t (record { frames = w.frames; floor = length walk.replayed.history; left = left })
    walk.input.now
    walk.count c.is_empty.result (record { counted = w.counted; passes = w.passes; reaches = w.reaches })
    (omega (arith, c.loop-walk.invariant.few, c.loop-walk-test.false))
    (λ holds. nil_from_length left (eqb-true (length left) 0 (sym c.is_empty.ensures ∙ holds)))
    (λ none. c.is_empty.ensures ∙ eq-eqb (length left) 0 (ap length none)))
