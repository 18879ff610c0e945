use Rattle.std.proofs.Common.{length, refl}
use Rattle.am_audit_answers.proofs.RunsOut.{accepts_no_memory, not_both, refuses_no_memory}
use Rattle.am_audit_answers.proofs.judging.judge_no_memory.Goals as goal

pub returns-then-begins : goal.returns-then-begins
returns-then-begins c = λ history frame first only.
    let text = c.no_memory_before-text.result.now in
    accepts_no_memory history c.args.replayed frame c.args.left.now text (length text) first only c.no_memory_before-text.ensures
    (c.begins.ensures.begins c.if-begins.true) (c.begins.ensures.fits c.if-begins.true) refl

pub returns-else-begins : goal.returns-else-begins
returns-else-begins c = λ history frame first only.
    refuses_no_memory history c.args.replayed frame c.args.left.now c.no_memory_before-text.result.now only
    c.no_memory_before-text.ensures
    (λ rest is. not_both c.begins.result (c.begins.ensures.none rest is) c.if-begins.false)
