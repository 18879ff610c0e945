use Rattle.std.proofs.Common.{◌≡◌, ℕ, ◌<◌, ◌^◌, Some, None, Bool, List, length, sym, ap, subst, arith}
use Rattle.std.specs.Prelude.{Option}
use Rattle.std.proofs.lemmas.Option.{none-some, same_Some}
use Rattle.am_frames.specs.FrameSpans.{frame_held}
use Rattle.am_audit_answers.specs.declared.marks.Mark.{Mark}
use Rattle.am_audit_answers.specs.Judged.{case_of, ground_of}
use Rattle.am_audit_answers.specs.Marks.{HasMark, HasNoMark, SaysOnly}
use Rattle.am_audit_answers.specs.Matching.{GoesTo}
use Rattle.am_audit_answers.proofs.Placed.{unmarked_wants}
use Rattle.am_audit_answers.proofs.Raised.{raised_if, stands_there, unreached}
use Rattle.am_audit_answers.proofs.judging.judge_request.Goals as goal

-- the mark that is read is the only one
says_only : (left : List ℕ) (mark : Mark)
    → ((at : ℕ) (stored : Bool) → HasMark left at stored → ◌≡◌ {A = Option Mark} (Some mark)
    (Some (record { at = at; stored = stored })))
    → (HasNoMark left → ◌≡◌ {A = Option Mark} (Some mark) None) → SaysOnly left mark.at mark.stored
says_only left mark marked unmarked = record {
  place = λ other others has.
      let is = same_Some mark _ (marked other others has) in
      (ap (λ (m : Mark). m.at) (sym is), ap (λ (m : Mark). m.stored) (sym is));
  made = λ none. none-some mark (sym (unmarked none));
}

pub returns-in-None : goal.returns-in-None
returns-in-None c =
    let short : length c.args.history.now < 2 ^ 64 = omega arith in
    let few : length c.args.left.now < 2 ^ 64 = omega arith in
    let here = case_of c.args.history.now c.args.replayed (frame_held c.args.frame.now) c.args.left.now in
    c.judge_no_memory.ensures c.args.history.now (frame_held c.args.frame.now) c.requires.stands.first
    (unmarked_wants here c.args.request c.requires.makes.asks (λ at stored has. none-some _
    (c.in-None.ensures.marked at stored has)) short few)

pub judge_call-requires-clause-stands : goal.judge_call-requires-clause-stands
judge_call-requires-clause-stands c =
    stands_there c.args.history.now c.args.replayed c.in-Some.mark.at c.in-Ok-Some.replayed c.requires.stands
    (rw c.in-Ok-Some.field-0-is at c.in-Ok-Some.ensures)

pub judge_call-requires-clause-says : goal.judge_call-requires-clause-says
judge_call-requires-clause-says c =
    let goes : GoesTo (ground_of c.args.history.now c.args.replayed) c.args.replayed c.in-Some.mark.at
    (Some c.in-Ok-Some.replayed) =
    rw c.in-Ok-Some.field-0-is at c.in-Ok-Some.ensures in
    subst (λ (at : ℕ). SaysOnly c.args.left.now at c.in-Some.mark.stored) (sym goes.1)
    (says_only c.args.left.now c.in-Some.mark c.in-Some.ensures.marked c.in-Some.ensures.unmarked)

pub returns-in-Ok-Some : goal.returns-in-Ok-Some
returns-in-Ok-Some c =
    let short : length c.args.history.now < 2 ^ 64 = omega arith in
    let few : length c.args.left.now < 2 ^ 64 = omega arith in
    let goes : GoesTo (ground_of c.args.history.now c.args.replayed) c.args.replayed c.in-Some.mark.at
    (Some c.in-Ok-Some.replayed) =
    rw c.in-Ok-Some.field-0-is at c.in-Ok-Some.ensures in
    raised_if c.args.history.now c.args.replayed (frame_held c.args.frame.now) c.args.left.now c.args.request
    c.in-Some.mark.at c.in-Some.mark.stored
    c.in-Ok-Some.replayed c.judge_call.result c.requires.makes.asks
    (says_only c.args.left.now c.in-Some.mark c.in-Some.ensures.marked c.in-Some.ensures.unmarked) short few goes
    c.judge_call.ensures

pub returns-in-Ok-None : goal.returns-in-Ok-None
returns-in-Ok-None c =
    let short : length c.args.history.now < 2 ^ 64 = omega arith in
    let few : length c.args.left.now < 2 ^ 64 = omega arith in
    let goes : GoesTo (ground_of c.args.history.now c.args.replayed) c.args.replayed c.in-Some.mark.at None =
    rw c.in-Ok-None.field-0-is at c.in-Ok-None.ensures in
    unreached c.args.history.now c.args.replayed (frame_held c.args.frame.now) c.args.left.now c.args.request
    c.in-Some.mark.at c.in-Some.mark.stored
    c.requires.makes.asks (says_only c.args.left.now c.in-Some.mark c.in-Some.ensures.marked c.in-Some.ensures.unmarked)
    short few goes
