use Rattle.std.proofs.Common.{◌≡◌, drop}
use Rattle.am_model.specs.Boards.{package_named}
use Rattle.am_installed.proofs.find.package_named.Given as goal

-- the packages that are left give what all of them give
abbrev pub invariant-loop-package : goal.invariant-loop-package
invariant-loop-package l = package_named (drop l.package-index l.packages) l.name ≡ package_named l.packages l.name
