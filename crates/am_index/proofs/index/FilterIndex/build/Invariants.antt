use Rattle.std.proofs.Common.{◌≡◌, take}
use Rattle.am_index.specs.declared.key.Key.{Key}
use Rattle.am_index.specs.Lists.{spots_at}
use Rattle.am_index.specs.Members.{spots_under}
use Rattle.am_index.proofs.index.FilterIndex.build.Given as goal

-- the packages so far are listed
abbrev pub invariant-loop-package : goal.invariant-loop-package
invariant-loop-package l = (key : Key) → spots_at l.lists key ≡ spots_under key (take l.package-index l.package-items)
