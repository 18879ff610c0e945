use Rattle.am_installed.specs.Places.{AreByNumber, place_registered}
use Rattle.am_installed.proofs.Orders.{registered_in_order, put_back}
use Rattle.am_installed.proofs.installed.Installed.register.Goals as goal

pub invariant_of-self : goal.invariant_of-self
invariant_of-self c = record {
  packages = c.self.invariant.packages;
  grants = c.self.invariant.grants;
  links = c.self.invariant.links;
  registered =
      put_back AreByNumber c.put_registered-put.result (place_registered c.args.registration)
      c.take-registered.ensures.items c.put_registered-put.ensures.put c.put_registered-put.ensures.same c.new.ensures
      (registered_in_order c.args.registration) c.self.invariant.registered;
}
