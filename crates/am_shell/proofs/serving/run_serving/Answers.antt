use Rattle.std.proofs.Common.{rules, Ok, Err}
use Rattle.am_shell.proofs.ServingLemmas.{runs}
use Rattle.am_shell.proofs.serving.run_serving.Goals as goal

pub returns-in-Ok : goal.returns-in-Ok
returns-in-Ok g c = λ before after. runs (Ok c.in-Ok.done) _ _ _ _
    (c.in-Ok.ensures (record before { output = _; errors = _ }) (record after { output = _; errors = _ }))
    c.tell_done.ensures

pub returns-in-Err : goal.returns-in-Err
returns-in-Err g c = λ before after. runs (Err c.in-Err.why) _ _ _ _
    (c.in-Err.ensures (record before { output = _; errors = _ }) (record after { output = _; errors = _ }))
    (search rules)
