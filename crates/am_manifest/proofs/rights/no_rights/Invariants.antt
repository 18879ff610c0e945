use Rattle.std.proofs.Common.{◌≡◌, replicate, []}
use Rattle.am_manifest.specs.RightsHeld.{texts_in}
use Rattle.am_manifest.proofs.rights.no_rights.Given as goal

abbrev pub invariant-loop : goal.invariant-loop
invariant-loop l = texts_in l.held ≡ replicate l.counter []
