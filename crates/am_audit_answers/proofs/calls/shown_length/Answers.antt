use Rattle.std.proofs.Common.{◌∙◌, sym}
use Rattle.am_audit_answers.proofs.TextLemmas.{response_first}
use Rattle.am_audit_answers.proofs.calls.shown_length.Goals as goal

pub returns-then-begins : goal.returns-then-begins
returns-then-begins c =
    response_first c.args.shown.now.at c.args.shown.now.stored c.args.shown.now.reply c.as_slice.result.now
    c.args.left.now c.len.result
    (c.as_slice.ensures.value ∙ c.in_ok-response.ensures) (c.len.ensures ∙ sym c.as_slice.ensures.len)
    (c.begins.ensures.begins c.if-begins.true) (c.begins.ensures.fits c.if-begins.true)
