use Rattle.am_frames.specs.FrameSpans.{frame_held}
use Rattle.am_http.specs.Links.{Server}
use Rattle.am_http.proofs.TurnLemmas.{answered_at}
use Rattle.am_http.proofs.answer.answer_frame.Goals as goal

-- the call is made at the moment that the clock gave
pub returns-in-Ok-clause-answer : goal.returns-in-Ok-clause-answer
returns-in-Ok-clause-answer g c =
    let old : Server = record { desk = g.D.Desk.view c.args.desk.now; clock = g.C.Clock.moments c.args.clock.now } in
    let new : Server = record { desk = g.D.Desk.view c.call.new.desk; clock = g.C.Clock.moments c.now-now.new.self } in
    answered_at old new (frame_held c.args.frame.now) c.now-now.result c.call.result
    c.call.ensures.answer c.now-now.ensures.moment c.now-now.ensures.next
