use Rattle.std.proofs.Common.{◌≡◌, ◌+◌, drop}
use Rattle.am_model.specs.Lists.{place_of}
use Rattle.am_installed.specs.Places.{before_registered}
use Rattle.am_installed.proofs.lists.place_of.Given as goal

-- none so far has a greater number
abbrev pub invariant-loop-place : goal.invariant-loop-place
invariant-loop-place l =
    place_of before_registered l.registration l.registered ≡ l.place + place_of before_registered l.registration
    (drop l.place l.registered)
