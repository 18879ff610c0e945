use Rattle.am_shell.proofs.RunLemmas.{runs_told}
use Rattle.am_shell.proofs.session.run_session.Goals as goal

pub returns-in-Ok : goal.returns-in-Ok
returns-in-Ok g c = λ before after. runs_told _ _ _ _ _ _ _ _ c.in-Ok.is c.end_line.ensures c.end_status.ensures
    (c.open_session.ensures (record before { errors = _ }) (record after { errors = _ })) c.tell.ensures

pub returns-in-Err : goal.returns-in-Err
returns-in-Err g c = λ before after. runs_told _ _ _ _ _ _ _ _ c.in-Err.is c.line.ensures c.status.ensures
    (c.open_session.ensures (record before { errors = _ }) (record after { errors = _ })) c.tell-in-Err.ensures
