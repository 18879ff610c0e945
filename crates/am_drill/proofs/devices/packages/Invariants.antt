use Rattle.std.proofs.Common.{◌≡◌, ◌*◌}
use Rattle.am_drill.specs.Draws.{after}
use Rattle.am_drill.specs.Devices.{packages_of}
use Rattle.am_drill.proofs.devices.packages.Given as goal

-- so far the packages are made, each of four draws
abbrev pub invariant-loop-i : goal.invariant-loop-i
invariant-loop-i l = record {
  made : l.made.items ≡ packages_of l.i l.initial.draws;
  drawn : l.draws ≡ after (4 * l.i) l.initial.draws;
}
