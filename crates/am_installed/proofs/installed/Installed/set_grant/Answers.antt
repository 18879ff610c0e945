use Rattle.am_model.specs.Boards.{with_grant}
use Rattle.am_installed.specs.Installed.{AreGrantsInOrder}
use Rattle.am_installed.proofs.Orders.{grants_in_order, put_back}
use Rattle.am_installed.proofs.installed.Installed.set_grant.Goals as goal

pub invariant_of-self : goal.invariant_of-self
invariant_of-self c = record {
  packages = c.self.invariant.packages;
  grants =
      put_back AreGrantsInOrder c.set_right-set.result
      (λ grants. with_grant grants c.args.uid c.args.permission.now c.args.held)
      c.take-grants.ensures.items c.set_right-set.ensures.set c.set_right-set.ensures.same c.new.ensures
      (λ grants. grants_in_order grants c.args.uid c.args.permission.now c.args.held) c.self.invariant.grants;
  links = c.self.invariant.links;
  registered = c.self.invariant.registered;
}
