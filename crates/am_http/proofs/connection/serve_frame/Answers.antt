use Rattle.std.proofs.Common.{refl, inl, inr}
use Rattle.am_frames.specs.FrameSpans.{frame_held}
use Rattle.am_http.specs.Links.{Server}
use Rattle.am_http.specs.Sessions.{IsUnasked}
use Rattle.am_frames.proofs.FramingLemmas.{whole_key, whole_body}
use Rattle.am_http.proofs.NextLemmas.{keeps_refl}
use Rattle.am_http.proofs.TurnLemmas.{ends_input, ends_cut, ends_refused, gave_window, held_frame, next_of, sends_err, turn_failed, turn_held}
use Rattle.am_http.proofs.connection.serve_frame.Goals as goal

-- nothing is asked of a server that stays
unasked : (server : Server) → IsUnasked server server
unasked server = record { seen = refl; clock = λ calls. refl }

pub returns-in-Empty-clause-turn : goal.returns-in-Empty-clause-turn
returns-in-Empty-clause-turn g c = (
  ends_input _ _ _ c.in-Ok.found c.in-Ok.ensures.kept c.in-Ok.ensures.found c.in-Empty.is,
  record { unasked = unasked _; least = refl; output = keeps_refl _ },
)

pub returns-in-Cut-clause-turn : goal.returns-in-Cut-clause-turn
returns-in-Cut-clause-turn g c = (
  ends_cut _ _ _ c.in-Ok.found c.in-Ok.ensures.kept c.in-Ok.ensures.found c.in-Cut.is,
  record { unasked = unasked _; least = refl; output = keeps_refl _ },
)

pub returns-in-Ok-write_defect-clause-turn : goal.returns-in-Ok-write_defect-clause-turn
returns-in-Ok-write_defect-clause-turn g c = (
  c.in-Refused.defect,
  ends_refused _ _ _ c.in-Ok.found c.in-Refused.defect c.in-Ok.ensures.kept c.in-Ok.ensures.found c.in-Refused.is,
  record { unasked = unasked _; least = refl; output = c.in-Ok-write_defect.ensures.sent },
  gave_window _ _ _ c.in-Ok.ensures.kept c.in-Ok.ensures.fits,
)

pub returns-in-Err-clause-turn : goal.returns-in-Err-clause-turn
returns-in-Err-clause-turn g c =
    inr (
      c.in-Refused.defect,
      ends_refused _ _ _ c.in-Ok.found c.in-Refused.defect c.in-Ok.ensures.kept c.in-Ok.ensures.found c.in-Refused.is,
      record { unasked = unasked _; least = refl; output = c.in-Err.ensures.sent },
      gave_window _ _ _ c.in-Ok.ensures.kept c.in-Ok.ensures.fits,
    )

pub answer_frame-answer-requires-clause-key : goal.answer_frame-answer-requires-clause-key
answer_frame-answer-requires-clause-key g c κs within =
    whole_key c.next_frame.new.window (frame_held c.of.result)
    (held_frame c.next_frame.new.window c.bytes.result.now _ c.in-Ok.found c.in-Whole.spans (frame_held c.of.result)
    c.in-Ok.ensures.found c.in-Whole.is c.bytes.ensures.bytes c.of.ensures)

pub answer_frame-answer-requires-clause-body : goal.answer_frame-answer-requires-clause-body
answer_frame-answer-requires-clause-body g c κs within =
    whole_body c.next_frame.new.window (frame_held c.of.result)
    (held_frame c.next_frame.new.window c.bytes.result.now _ c.in-Ok.found c.in-Whole.spans (frame_held c.of.result)
    c.in-Ok.ensures.found c.in-Whole.is c.bytes.ensures.bytes c.of.ensures)

pub least_after-requires : goal.least_after-requires
least_after-requires g c =
    let old : Server = record { desk = g.D.Desk.view c.args.desk.now; clock = g.C.Clock.moments c.args.clock.now } in
    let new : Server = record {
      desk = g.D.Desk.view c.answer_frame-answer.new.desk;
      clock = g.C.Clock.moments c.answer_frame-answer.new.clock;
    } in
    next_of old new (frame_held c.of.result) c.answer_frame-answer.result c.answer_frame-answer.ensures.answer

pub returns-then-is_err-clause-turn : goal.returns-then-is_err-clause-turn
returns-then-is_err-clause-turn g c =
    let w = c.next_frame.new.window in
    let f = frame_held c.of.result in
    let sent = c.write_answer-written.ensures.sent in
    inl (turn_failed g.D.Desk.waits _ _ f c.answer_frame-answer.result sent.0 c.in-Ok.ensures.kept
    (held_frame w c.bytes.result.now _ c.in-Ok.found c.in-Whole.spans f c.in-Ok.ensures.found c.in-Whole.is
    c.bytes.ensures.bytes c.of.ensures)
    c.in-Ok.ensures.fits c.answer_frame-answer.ensures.answer sent.1
    (c.answer_frame-answer.ensures.least, c.least_after.ensures)
    (sends_err _ _ sent.0 c.write_answer-written.result c.if-is_err.ensures.value sent.2))

pub returns-then-spans-clause-turn : goal.returns-then-spans-clause-turn
returns-then-spans-clause-turn g c =
    turn_held _ _ _ c.in-Ok.ensures.kept c.in-Ok.ensures.found c.in-Whole.is c.bytes.ensures.bytes c.of.ensures
    c.consume.ensures c.answer_frame-answer.ensures.answer c.write_answer-written.ensures.sent.1
    (c.answer_frame-answer.ensures.least, c.least_after.ensures)
    c.if-is_err.ensures.value c.write_answer-written.ensures.sent.2 c.if-spans.true

pub returns-else-spans-clause-turn : goal.returns-else-spans-clause-turn
returns-else-spans-clause-turn g c =
    turn_held _ _ _ c.in-Ok.ensures.kept c.in-Ok.ensures.found c.in-Whole.is c.bytes.ensures.bytes c.of.ensures
    c.consume.ensures c.answer_frame-answer.ensures.answer c.write_answer-written.ensures.sent.1
    (c.answer_frame-answer.ensures.least, c.least_after.ensures)
    c.if-is_err.ensures.value c.write_answer-written.ensures.sent.2 c.if-spans.false
