use Rattle.std.proofs.Common.{◌≡◌, true, false, Some, None, nat_le, refl, sym, ap, ◌∙◌, arith}
use Rattle.std.proofs.lemmas.Bool.Decides.{nat_tests}
use Rattle.am_model.specs.Uris.{phone_port_of}
use Rattle.am_uri.proofs.Ports.{phone_port-parse}
use Rattle.am_uri.proofs.phone.read_port.Goals as goal

pub returns-in_err-port : goal.returns-in_err-port
returns-in_err-port c = c.from_residual.ensures ∙ ap phone_port_of (sym c.in_err-port.was ∙ c.ok.ensures.value)
    ∙ phone_port-parse c.args.digits.now c.parse.result c.parse.ensures.value.0 c.requires

pub returns-then-port-le-MAX_PORT : goal.returns-then-port-le-MAX_PORT
returns-then-port-le-MAX_PORT c =
    let low : nat_le c.in_ok-port.port 2147483647 ≡ true = grind (arith, nat_tests, c.if-port-le-MAX_PORT.true) in
    let is : Some c.in_ok-port.port ≡ phone_port_of (Some c.in_ok-port.port) = rw low refl in
    is ∙ ap phone_port_of (sym c.in_ok-port.was ∙ c.ok.ensures.value)
    ∙ phone_port-parse c.args.digits.now c.parse.result c.parse.ensures.value.0 c.requires

pub returns-else-port-le-MAX_PORT : goal.returns-else-port-le-MAX_PORT
returns-else-port-le-MAX_PORT c =
    let great : nat_le c.in_ok-port.port 2147483647 ≡ false = grind (arith, nat_tests, c.if-port-le-MAX_PORT.false) in
    let is : None ≡ phone_port_of (Some c.in_ok-port.port) = rw great refl in
    is ∙ ap phone_port_of (sym c.in_ok-port.was ∙ c.ok.ensures.value)
    ∙ phone_port-parse c.args.digits.now c.parse.result c.parse.ensures.value.0 c.requires
