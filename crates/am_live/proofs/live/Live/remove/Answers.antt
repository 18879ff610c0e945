use Rattle.am_live_packages.proofs.PackageLemmas.{few_kept}
use Rattle.am_live.proofs.live.Live.remove.Goals as goal

pub invariant_of-self : goal.invariant_of-self
invariant_of-self c = (
  c.self.invariant.0,
  few_kept c.self.inside.board c.drop_package.new.self c.drop_rights.new.self c.args.uid
      c.drop_package.ensures c.drop_rights.ensures c.self.invariant.1,
)
