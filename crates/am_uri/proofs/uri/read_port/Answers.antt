use Rattle.std.proofs.Common.{◌≡◌, true, sym, ◌∙◌}
use Rattle.am_model.specs.Uris.{is_port, port_of}
use Rattle.am_uri.proofs.Ports.{port_of-parse}
use Rattle.am_uri.proofs.uri.read_port.Goals as goal

pub returns-then-is_port : goal.returns-then-is_port
returns-then-is_port c =
    let port : is_port c.args.digits.now ≡ true = sym c.if-is_port.ensures in
    let number : c.ok.result ≡ port_of c.args.digits.now = c.ok.ensures.value
    ∙ port_of-parse c.args.digits.now c.parse.result c.parse.ensures.value.0 port in
    rw (port, number)
