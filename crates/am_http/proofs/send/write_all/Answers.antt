use Rattle.std.proofs.Common.{◌∙◌, arith}
use Rattle.am_http.proofs.SendLemmas.{sent_more, sent_part, sends_failed}
use Rattle.am_http.proofs.send.write_all.Goals as goal

-- the sink failed at a piece
pub returns-in_err-at-clause-sent : goal.returns-in_err-at-clause-sent
returns-in_err-at-clause-sent g c =
    let taken = g.W.Sink.taken in
    sends_failed (taken c.args.sink.now) (taken c.write_from.new.sink) c.args.bytes.now c.from_residual.result
    c.from_residual.ensures.0
    (sent_part (taken c.args.sink.now) (taken c.loop-at.sink) (taken c.write_from.new.sink) c.args.bytes.now
    c.loop-at.at
    c.loop-at-test.true c.loop-at.invariant.sent c.in_err-at.ensures.sent)

-- the sink took a piece
pub loop-at-preserved : goal.loop-at-preserved
loop-at-preserved g c =
    let taken = g.W.Sink.taken in
    let sent = c.in_ok-at.ensures.sent in
    record {
      within = sent.1;
      sent = sent_more (taken c.args.sink.now) (taken c.loop-at.sink) (taken c.write_from.new.sink) c.args.bytes.now
          c.loop-at.at c.in_ok-at.at
          sent.0 c.loop-at.invariant.sent sent.2;
      never_falls = omega (arith, c.loop-at.invariant.never_falls, c.in_ok-at.ensures.same.never_falls);
      mark = c.in_ok-at.ensures.same.mark ∙ c.loop-at.invariant.mark;
    }
