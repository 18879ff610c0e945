use Rattle.std.proofs.Common.{Err}
use Rattle.std.proofs.lemmas.Result.{err_from_is_err_and}
use Rattle.am_shell.proofs.ServeLemmas.{serves_file}
use Rattle.am_shell.proofs.session.open_session.Goals as goal

pub returns-in_err-end : goal.returns-in_err-end
returns-in_err-end g c = λ before after.
    let p = err_from_is_err_and c.from_residual-in_err-end.result
    c.from_residual-in_err-end.ensures.1 in
    rw (p.1, p.2) (serves_file (Err c.in_err-end.field-0.0) c.args.asked c.in_ok-device.device _ _
    c.in_ok-device.ensures.opens
    (c.in_err-end.ensures (record before { files = _ }) (record after { files = _ })))

pub returns : goal.returns
returns g c = λ before after. record {
  device = c.in_ok-device.device;
  file = c.in_ok-device.ensures.opens;
  works = c.in_ok-end.ensures (record before { files = _ }) (record after { files = _ });
}
