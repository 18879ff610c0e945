use Rattle.am_installed.proofs.Changed.{installed_stopped}
use Rattle.am_installed.proofs.installed.Installed.set_stopped.Goals as goal

pub invariant_of-self : goal.invariant_of-self
invariant_of-self c = record {
  packages =
      rw (c.new.ensures, c.set_stopped.ensures, c.take-packages.ensures.items)
      (installed_stopped c.self.inside.packages c.args.uid c.args.stopped c.self.invariant.packages);
  grants = c.self.invariant.grants;
  links = c.self.invariant.links;
  registered = c.self.invariant.registered;
}
