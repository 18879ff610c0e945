use Rattle.std.proofs.Common.{◌≡◌, drop}
use Rattle.am_history.specs.State.{key_of_package}
use Rattle.am_live_callers.proofs.callers.key_of_package.Given as goal

-- the packages that are left give what all of them give
abbrev pub invariant-loop-installed : goal.invariant-loop-installed
invariant-loop-installed l =
    key_of_package (drop l.installed-index l.installed-items) l.uid ≡ key_of_package l.installed-items l.uid
