use Rattle.std.proofs.Common.{◌≡◌, ◌++◌, map, drop}
use Rattle.am_manifest.specs.Rights.{with_uids}
use Rattle.am_manifest.proofs.rights.with_uids.Given as goal

abbrev pub invariant-loop-i : goal.invariant-loop-i
invariant-loop-i l =
    l.rights.items ++ with_uids (drop l.i l.packages) (map (λ texts. texts.keys) (drop l.i l.held))
    ≡ with_uids l.packages (map (λ texts. texts.keys) l.held)
