use Rattle.am_opening.specs.Merging.{is_live}
use Rattle.am_opening.proofs.Follows.{IsMerging}
use Rattle.am_opening.proofs.merging.merged.Given as goal

-- the rows so far were merged
abbrev pub invariant-loop-row : goal.invariant-loop-row
invariant-loop-row g l =
    IsMerging g.T.RightRow.right g.T.RightRow.is_held (λ row. is_live l.kind l.packages (g.T.RightRow.right row))
    l.fn.rights.items l.rows l.row-index l.done.items l.left.items
