use Rattle.std.proofs.Common.{length, refl}
use Rattle.am_audit_answers.specs.Judged.{case_of}
use Rattle.am_audit_answers.proofs.RunsOut.{accepts_refused, not_both, refused_wants}
use Rattle.am_audit_answers.proofs.judging.judge_refused.Goals as goal

pub returns-then-begins : goal.returns-then-begins
returns-then-begins c = λ history frame first asked.
    let text = c.args.text.now in
    accepts_refused history c.args.replayed frame c.args.left.now text (length text) first asked
    (c.begins.ensures.begins c.if-begins.true) (c.begins.ensures.fits c.if-begins.true) refl

pub returns-else-begins : goal.returns-else-begins
returns-else-begins c = λ history frame first asked.
    c.judge_no_memory.ensures history frame first
    (refused_wants (case_of history c.args.replayed frame c.args.left.now) c.args.text.now asked
    (λ rest is. not_both c.begins.result (c.begins.ensures.none rest is) c.if-begins.false))
