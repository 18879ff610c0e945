use Rattle.std.proofs.Common.{sym, subst}
use Rattle.am_model.specs.Boards as boards
use Rattle.am_index.specs.Standing.{StandsFor}
use Rattle.am_resolve.proofs.Standing.{stands_stopped}
use Rattle.am_resolve.proofs.board.Board.set_stopped.Goals as goal

pub invariant_of-self : goal.invariant_of-self
invariant_of-self c =
    subst (λ (b : boards.Board). StandsFor c.self.inside.index b.packages) (sym c.set_stopped.ensures)
    (stands_stopped c.self.inside.index c.self.inside.installed.packages c.args.uid c.args.stopped c.self.invariant)
