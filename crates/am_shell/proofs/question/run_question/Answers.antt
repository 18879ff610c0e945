use Rattle.std.proofs.Common.{rules, Ok, Err}
use Rattle.am_shell.proofs.QuestionLemmas.{runs}
use Rattle.am_shell.proofs.question.run_question.Goals as goal

pub returns-in-Ok : goal.returns-in-Ok
returns-in-Ok g c = λ before after. runs (Ok c.in-Ok.text) _ _ _ _
    (c.in-Ok.ensures (record before { output = _; errors = _ }) (record after { output = _; errors = _ }))
    (search rules)

pub returns : goal.returns
returns g c = λ before after. runs (Err c.in-Err.why) _ _ _ _
    (c.in-Err.ensures (record before { output = _; errors = _ }) (record after { output = _; errors = _ }))
    (search rules)
