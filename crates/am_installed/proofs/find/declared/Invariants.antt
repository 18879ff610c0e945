use Rattle.std.proofs.Common.{◌≡◌, drop}
use Rattle.am_model.specs.Receivers.{declared}
use Rattle.am_installed.proofs.find.declared.Given as goal

-- the packages that are left give what all of them give
abbrev pub invariant-loop-package : goal.invariant-loop-package
invariant-loop-package l = declared (drop l.package-index l.packages) l.kind l.component
    ≡ declared l.packages l.kind l.component
