use Rattle.std.proofs.Common.{◌≡◌, ◌<◌, max, drop, map}
use Rattle.std.specs.List.{fold}
use Rattle.am_history.specs.Packages.{no_uid}
use Rattle.am_opening.specs.Openings.{given_uids}
use Rattle.am_opening.proofs.uids.of_rights.Given as goal

-- the greatest uid of those that are left and of those so far is that of all
abbrev pub invariant-loop-row : goal.invariant-loop-row
invariant-loop-row g l =
    (fold max l.greatest (given_uids (map (λ row. (g.T.RightRow.right row).0) (drop l.row-index l.rows)))
    ≡ fold max l.least (given_uids (map (λ row. (g.T.RightRow.right row).0) l.rows)))
    × (l.greatest < no_uid)
