use Rattle.am_live_packages.proofs.PackageLemmas.{few_left, install_undone, right_undone}
use Rattle.am_live.proofs.live.Live.take_back.Goals as goal

pub invariant_of-self : goal.invariant_of-self
invariant_of-self c = (
  c.self.invariant.0,
  few_left c.self.inside.board c.drop_package.new.self _ c.drop_package.ensures
      c.self.invariant.1,
)

pub returns-in-Install : goal.returns-in-Install
returns-in-Install c = install_undone c.args.change.now c.args.self.now _ c.drop_package.new.self c.self.view_is
    c.in-Install.«package» c.in-Install.is c.drop_package.ensures

pub returns-then-right : goal.returns-then-right
returns-then-right c =
    right_undone c.args.change.now c.args.self.now _ c.take_right.new.board c.self.view_is c.in-Right.right
    c.in-Right.is c.if-right.true c.take_right.ensures.taken
