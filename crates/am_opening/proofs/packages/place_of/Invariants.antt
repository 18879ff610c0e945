use Rattle.std.proofs.Common.{◌≡◌, ◌+◌, drop}
use Rattle.am_model.specs.Lists.{place_of}
use Rattle.am_history.specs.Opening.{before_package}
use Rattle.am_opening.proofs.packages.place_of.Given as goal

-- none so far has a greater uid
abbrev pub invariant-loop-place : goal.invariant-loop-place
invariant-loop-place l = place_of before_package l.package l.packages
    ≡ l.place + place_of before_package l.package (drop l.place l.packages)
