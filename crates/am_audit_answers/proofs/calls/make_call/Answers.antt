use Rattle.am_frames.specs.FrameSpans.{frame_held}
use Rattle.am_http.proofs.FormedLemmas.{a_read_request_is_formed}
use Rattle.am_audit_answers.proofs.calls.make_call.Goals as goal

pub call-requires : goal.call-requires
call-requires c = record {
  formed = a_read_request_is_formed (frame_held c.args.frame.now) c.args.request
      c.requires.asks;
}
