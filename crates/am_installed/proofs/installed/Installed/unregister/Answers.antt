use Rattle.std.proofs.Common.{not, eqb}
use Rattle.am_types.specs.declared.resolve.Registration.{Registration}
use Rattle.am_installed.proofs.Orders.{in_order_left}
use Rattle.am_installed.proofs.installed.Installed.unregister.Goals as goal

pub invariant_of-self : goal.invariant_of-self
invariant_of-self c =
    rw (c.new.ensures, c.drop_registered.ensures, c.take-registered.ensures.items)
    (in_order_left _ (λ (r : Registration). not (eqb r.number c.args.number)) c.self.invariant)
