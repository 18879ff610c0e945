use Rattle.std.proofs.Common.{sym, subst}
use Rattle.am_model.specs.Boards as boards
use Rattle.am_index.specs.Standing.{StandsFor}
use Rattle.am_resolve.proofs.board.Board.drop_package.Goals as goal

pub invariant_of-self : goal.invariant_of-self
invariant_of-self c =
    subst (λ (b : boards.Board). StandsFor c.drop_uid.new.self b.packages) (sym c.drop_package.ensures)
    (c.drop_uid.ensures c.self.inside.installed.packages c.self.invariant)
