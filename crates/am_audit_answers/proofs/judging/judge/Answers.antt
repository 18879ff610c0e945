use Rattle.std.proofs.Common.{ℕ, Err, List, sym, subst}
use Rattle.am_frames.specs.FrameSpans.{frame_held}
use Rattle.am_audit_answers.specs.Judging.{Asks}
use Rattle.am_audit_answers.proofs.judging.judge.Goals as goal

pub returns-in-Ok-Err : goal.returns-in-Ok-Err
returns-in-Ok-Err c =
    let frame = frame_held c.args.frame.now in
    let asked : Asks frame (Err c.in-Ok-Err.text) = rw c.in-Ok-Err.field-0-is at c.in-Ok-Err.ensures in
    c.judge_refused-judged.ensures c.args.history.now frame c.requires.first
    (subst (λ (text : List ℕ). Asks frame (Err text)) (sym c.as_slice.ensures) asked)

pub judge_request-requires : goal.judge_request-requires
judge_request-requires c = record {
  stands = record { made = c.requires.record; first = c.requires.first };
  makes = record {
    key = c.requires.key;
    body = c.requires.body;
    asks = rw c.in-Ok-Ok.field-0-is at c.in-Ok-Ok.ensures;
  };
}
