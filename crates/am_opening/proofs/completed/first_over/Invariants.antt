use Rattle.std.proofs.Common.{◌≡◌, drop}
use Rattle.std.specs.List.{find}
use Rattle.am_model.specs.Boards.{board_of}
use Rattle.am_history.specs.Opening.{has_too_many}
use Rattle.am_opening.proofs.completed.first_over.Given as goal

-- the first of those that are left is the first of all
abbrev pub invariant-loop-package : goal.invariant-loop-package
invariant-loop-package l =
    find (has_too_many (board_of l.device)) (drop l.package-index l.device.packages)
    ≡ find (has_too_many (board_of l.device)) l.device.packages
