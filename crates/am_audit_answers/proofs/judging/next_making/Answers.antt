use Rattle.std.proofs.Common.{◌≡◌, List, length, refl, sym, ◌∙◌, subst}
use Rattle.std.specs.Prelude.{Some, slice_get}
use Rattle.std.proofs.lemmas.Option.{none-some, same_Some}
use Rattle.am_types.specs.declared.history.Entry.{Entry}
use Rattle.am_types.specs.declared.request.Request.{Request}
use Rattle.am_frames.specs.Head.{Frame}
use Rattle.am_frames.specs.FrameSpans.{frame_held}
use Rattle.am_audit_history.specs.Replays.{Replay, state_of}
use Rattle.am_audit_answers.specs.Judged.{IsNext}
use Rattle.am_audit_answers.specs.Matching.{IsItsCall}
use Rattle.am_audit_answers.proofs.Going.{next_is_whole}
use Rattle.am_audit_answers.proofs.RunsOut.{not_both}
use Rattle.am_audit_answers.proofs.judging.next_making.Goals as goal

-- if the entry there isn't the frame's call, no next entry is
none_is : (history : List Entry) (replayed : Replay) (frame : Frame) (request : Request) (next : Entry)
    → slice_get history (length replayed.history) ≡ Some next
    → (IsItsCall (state_of replayed) frame request next → ⊥)
    → (other : Entry) → IsNext history replayed frame request other → ⊥
none_is history replayed frame request next there never other is =
    let same : other ≡ next = same_Some other next (sym is.there ∙ there) in
    never (subst (IsItsCall (state_of replayed) frame request) same is.its)

pub returns-in-None : goal.returns-in-None
returns-in-None c = λ next is. none-some next (c.in-None.ensures ∙ is.there)

pub is_its_call-requires-clause-again : goal.is_its_call-requires-clause-again
is_its_call-requires-clause-again c =
    (next_is_whole c.args.history.now (length c.args.replayed.now.history) c.in-Some.next.now
    c.requires.stands.made.whole
    (sym c.in-Some.ensures)).request

pub returns-in-Ok-true : goal.returns-in-Ok-true
returns-in-Ok-true c =
    let its = c.in-Ok-true.ensures.0 c.in-Ok-true.field-0-test in
    (c.in-Some.next.now, record { there = sym c.in-Some.ensures; its = its }, refl)

pub returns-in-Ok-false : goal.returns-in-Ok-false
returns-in-Ok-false c =
    none_is c.args.history.now c.args.replayed.now (frame_held c.args.frame.now) c.args.request.now c.in-Some.next.now
    (sym c.in-Some.ensures)
    (λ its. not_both c.in-Ok-false.field-0 (c.in-Ok-false.ensures.1 its) c.in-Ok-false.field-0-test)
