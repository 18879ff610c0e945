use Rattle.serde_json.specs.Written.{compact_text}
use Rattle.am_wire_values.specs.Requests.{request_data}
use Rattle.am_frames.specs.FrameSpans.{frame_held}
use Rattle.am_audit_answers.proofs.Asked.{readable}
use Rattle.am_audit_answers.proofs.matching.is_its_call.Goals as goal

pub is_same_request-requires-clause-one : goal.is_same_request-requires-clause-one
is_same_request-requires-clause-one c = readable (frame_held c.args.frame.now) c.args.request.now c.requires.makes.asks

pub is_same_request-requires-clause-other : goal.is_same_request-requires-clause-other
is_same_request-requires-clause-other c = (compact_text (request_data c.args.next.now.request), c.requires.again.again)
