use Rattle.am_installed.proofs.Changed.{installed_without}
use Rattle.am_installed.proofs.installed.Installed.drop_package.Goals as goal

pub invariant_of-self : goal.invariant_of-self
invariant_of-self c = record {
  packages =
      rw (c.new.ensures, c.drop_package.ensures, c.take-packages.ensures.items)
      (installed_without c.self.inside.packages c.args.uid c.self.invariant.packages);
  grants = c.self.invariant.grants;
  links = c.self.invariant.links;
  registered = c.self.invariant.registered;
}
