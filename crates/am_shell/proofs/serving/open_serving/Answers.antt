use Rattle.std.proofs.Common.{inl}
use Rattle.am_shell.proofs.serving.open_serving.Goals as goal

pub returns : goal.returns
returns g c = λ before after. inl (record {
  device = c.in_ok-device.device;
  file = c.in_ok-device.ensures.opens;
  serves = c.serve_device.ensures (record before { files = _ }) (record after { files = _ });
})
