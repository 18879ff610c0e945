use Rattle.std.proofs.Common.{◌≡◌, ◌<◌, max, drop}
use Rattle.std.specs.List.{fold}
use Rattle.am_history.specs.Packages.{no_uid}
use Rattle.am_history.specs.State.{uids_of}
use Rattle.am_opening.proofs.uids.greatest_of.Given as goal

-- the greatest uid of those that are left and of those so far is that of all
abbrev pub invariant-loop-package : goal.invariant-loop-package
invariant-loop-package l =
    (fold max l.greatest (uids_of (drop l.package-index l.packages)) ≡ fold max 9999 (uids_of l.packages))
    × (l.greatest < no_uid)
