use Rattle.std.proofs.Common.{ℕ, ◌<◌, length, take, sym, subst, ap, ◌∙◌, arith}
use Rattle.std.proofs.lemmas.Bool.{cond-true, eq-eqb}
use Rattle.std.proofs.lemmas.Bool.Decides.{nat_tests}
use Rattle.std.proofs.lemmas.List.{nil_from_length, take_min, length-take}
use Rattle.am_frames.specs.Framing.{IsFraming}
use Rattle.am_frames.specs.FrameSpans.{outcome_at}
use Rattle.am_frames.specs.declared.frame.Found.{Found}
use Rattle.am_frames.proofs.WindowLemmas.{IsFraming-from_found, IsFraming-from_partial, IsFraming-from_refusal, IsFraming-nil, without_head-cut}
use Rattle.am_frames.proofs.FramingLemmas.{empty_only}
use Rattle.am_frames.proofs.frame.find_frame.Goals as goal

pub returns-then-is_empty-clause-framing : goal.returns-then-is_empty-clause-framing
returns-then-is_empty-clause-framing c =
    IsFraming-nil c.args.bytes.now (nil_from_length c.args.bytes.now (grind (arith, nat_tests)))

pub returns-in-Ok-Complete-clause-framing : goal.returns-in-Ok-Complete-clause-framing
returns-in-Ok-Complete-clause-framing c =
    let bytes = c.args.bytes.now in
    let is = ap (λ (n : ℕ). take n bytes) c.min.ensures ∙ take_min 8192 bytes in
    IsFraming-from_found bytes (take c.min.result bytes) is c.parse_request.new.headers c.in-Ok-Complete.head _
    (omega arith)
    (rw c.in-Ok-Complete.field-0-is at c.in-Ok-Complete.ensures.within)
    (rw c.in-Ok-Complete.field-0-is at c.in-Ok-Complete.ensures.complete)
    c.frame_after.ensures.outcome

pub returns-in-Ok-Complete-clause-empty : goal.returns-in-Ok-Complete-clause-empty
returns-in-Ok-Complete-clause-empty c =
    let bytes = c.args.bytes.now in
    let some : 0 < length bytes = grind (arith, nat_tests) in (
      λ e.
          empty_only bytes
          (subst (λ (r : Found). IsFraming bytes (outcome_at bytes r)) e (returns-in-Ok-Complete-clause-framing c)),
      λ none. absurd (omega (arith, ap length none)),
    )

pub returns-then-window-eq-MAX_HEAD-clause-framing :
    goal.returns-then-window-eq-MAX_HEAD-clause-framing
returns-then-window-eq-MAX_HEAD-clause-framing c =
    let bytes = c.args.bytes.now in
    let is = ap (λ (n : ℕ). take n bytes) c.min.ensures ∙ take_min 8192 bytes in
    IsFraming-from_partial bytes (take c.min.result bytes) is _
    (rw c.in-Ok-Partial.field-0-is at c.in-Ok-Partial.ensures.partial)
    (rw c.in-Ok-Partial.field-0-is at c.in-Ok-Partial.ensures.unfinished)
    (sym (cond-true _ _ _ (eq-eqb _ 8192 c.if-window-eq-MAX_HEAD.true)))

pub returns-else-window-eq-MAX_HEAD-clause-framing :
    goal.returns-else-window-eq-MAX_HEAD-clause-framing
returns-else-window-eq-MAX_HEAD-clause-framing c =
    let bytes = c.args.bytes.now in
    let some : 0 < length bytes = grind (arith, nat_tests) in
    let is = ap (λ (n : ℕ). take n bytes) c.min.ensures ∙ take_min 8192 bytes in
    IsFraming-from_partial bytes (take c.min.result bytes) is _
    (rw c.in-Ok-Partial.field-0-is at c.in-Ok-Partial.ensures.partial)
    (rw c.in-Ok-Partial.field-0-is at c.in-Ok-Partial.ensures.unfinished)
    (without_head-cut (take c.min.result bytes) c.if-window-eq-MAX_HEAD.false
    (omega (arith, length-take c.min.result bytes, some)))

pub returns-in-Err-clause-framing : goal.returns-in-Err-clause-framing
returns-in-Err-clause-framing c =
    let bytes = c.args.bytes.now in
    let is = ap (λ (n : ℕ). take n bytes) c.min.ensures ∙ take_min 8192 bytes in
    IsFraming-from_refusal bytes (take c.min.result bytes) is c.in-Err.ensures.no_room
