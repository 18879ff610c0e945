use Rattle.am_model.specs.Boards.{with_link}
use Rattle.am_installed.specs.Installed.{AreLinksInOrder}
use Rattle.am_installed.proofs.Orders.{links_in_order, put_back}
use Rattle.am_installed.proofs.installed.Installed.set_link.Goals as goal

pub invariant_of-self : goal.invariant_of-self
invariant_of-self c = record {
  packages = c.self.invariant.packages;
  grants = c.self.invariant.grants;
  links =
      put_back AreLinksInOrder c.set_right-set.result
      (λ links. with_link links c.args.uid c.args.host.now c.args.approved) c.take-links.ensures.items
      c.set_right-set.ensures.set c.set_right-set.ensures.same c.new.ensures
      (λ links. links_in_order links c.args.uid c.args.host.now c.args.approved) c.self.invariant.links;
  registered = c.self.invariant.registered;
}
