use Rattle.am_live_packages.proofs.PackageLemmas.{right_carried}
use Rattle.am_live.proofs.live.Live.carry_out.Goals as goal

pub returns-in-Right : goal.returns-in-Right
returns-in-Right g c =
    right_carried c.in-Right.right c.args.change c.args.self.now c.settle.new.self _ c.take_unless_held.new.board
    c.args.moment c.in-Right.is c.requires.prepared
    c.settle.ensures c.self-in-Right.view_is c.take_unless_held.ensures.taken
