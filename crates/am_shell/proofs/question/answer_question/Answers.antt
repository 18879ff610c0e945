use Rattle.std.proofs.Common.{◌∙◌, sym}
use Rattle.am_shell.proofs.QuestionLemmas.{answered}
use Rattle.am_shell.proofs.question.answer_question.Goals as goal

pub returns : goal.returns
returns g c = λ before after.
    answered c.answer_to.result c.args.asked.now _ _ c.in_ok-known.known c.in-Some.caller c.in_ok-bytes.bytes.items
    c.as_slice.result.now c.as_slice.ensures.value
    (record { file = c.in_ok-known.ensures.opens; named = sym c.caller_named.ensures ∙ c.in-Some.is })
    c.in_ok-bytes.ensures.read
    c.answer_to.ensures.answered c.answer_to.ensures.failed
