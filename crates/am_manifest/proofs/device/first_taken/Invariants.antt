use Rattle.std.proofs.Common.{◌≡◌, drop}
use Rattle.am_manifest.specs.Devices.{first_taken}
use Rattle.am_manifest.proofs.device.first_taken.Given as goal

abbrev pub invariant-loop-package : goal.invariant-loop-package
invariant-loop-package l =
    first_taken l.names.keys l.keys.keys (drop l.package-index l.packages)
    ≡ first_taken l.initial.names.keys l.initial.keys.keys l.packages
