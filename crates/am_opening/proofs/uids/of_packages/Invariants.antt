use Rattle.std.proofs.Common.{◌≡◌, ◌<◌, max, drop, map}
use Rattle.std.specs.List.{fold}
use Rattle.am_keeper.specs.declared.rows.PackageRow.{PackageRow}
use Rattle.am_history.specs.Packages.{no_uid}
use Rattle.am_opening.proofs.uids.of_packages.Given as goal

-- the greatest uid of those that are left and of those so far is that of all
abbrev pub invariant-loop-row : goal.invariant-loop-row
invariant-loop-row l =
    (fold max l.greatest (map (λ (row : PackageRow). row.uid) (drop l.row-index l.rows))
    ≡ fold max l.least (map (λ (row : PackageRow). row.uid) l.rows))
    × (l.greatest < no_uid)
