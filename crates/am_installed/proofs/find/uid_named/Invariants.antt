use Rattle.std.proofs.Common.{◌≡◌, drop}
use Rattle.am_model.specs.Boards.{uid_named}
use Rattle.am_installed.proofs.find.uid_named.Given as goal

-- the packages that are left have the uid that all of them have
abbrev pub invariant-loop-package : goal.invariant-loop-package
invariant-loop-package l = uid_named (drop l.package-index l.package-items) l.name ≡ uid_named l.packages l.name
