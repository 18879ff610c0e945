use Rattle.std.proofs.Common.{◌≡◌, ◌++◌, take, drop}
use Rattle.am_model.specs.Boards.{with_stopped}
use Rattle.am_installed.proofs.lists.set_stopped.Given as goal

-- the packages up to here are changed, and the rest isn't
abbrev pub invariant-loop-place : goal.invariant-loop-place
invariant-loop-place l =
    l.packages.items ≡ with_stopped (take l.place l.initial.packages.items) l.uid l.stopped
    ++ drop l.place l.initial.packages.items
