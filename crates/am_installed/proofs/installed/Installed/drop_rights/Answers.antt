use Rattle.std.proofs.Common.{not, eqb}
use Rattle.am_types.specs.declared.device.Grant.{Grant}
use Rattle.am_types.specs.declared.device.Link.{Link}
use Rattle.am_installed.proofs.Orders.{fewer_grants, fewer_links}
use Rattle.am_installed.proofs.installed.Installed.drop_rights.Goals as goal

pub invariant_of-self : goal.invariant_of-self
invariant_of-self c = record {
  packages = c.self.invariant.packages;
  grants =
      rw (c.new.ensures, c.drop_rights_of.ensures, c.take-grants.ensures.items)
      (fewer_grants (λ (g : Grant). not (eqb g.uid c.args.uid)) c.self.inside.grants c.self.invariant.grants);
  links =
      rw (c.new-2.ensures, c.drop_rights_of-2.ensures, c.take-links.ensures.items)
      (fewer_links (λ (l : Link). not (eqb l.uid c.args.uid)) c.self.inside.links c.self.invariant.links);
  registered = c.self.invariant.registered;
}
