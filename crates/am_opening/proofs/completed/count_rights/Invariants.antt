use Rattle.std.proofs.Common.{◌≡◌, ◌≤◌, ◌==◌, take, count_by}
use Rattle.am_opening.proofs.completed.count_rights.Given as goal

-- those so far were counted
abbrev pub invariant-loop-right : goal.invariant-loop-right
invariant-loop-right g l =
    (l.count ≡ count_by (λ right. (g.T.Right.right_of right).0 == l.uid) (take l.right-index l.rights))
    × (l.count ≤ l.right-index)
