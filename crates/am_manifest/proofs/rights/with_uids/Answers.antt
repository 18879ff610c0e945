-- The loop's step: one more package.
use Rattle.std.proofs.Common.{map}
use Rattle.am_manifest.specs.Rights.{with_uids}
use Rattle.am_manifest.proofs.Holders.{uids_more}
use Rattle.am_manifest.proofs.rights.with_uids.Goals as goal

pub loop-i-preserved : goal.loop-i-preserved
loop-i-preserved c =
    let packages = c.args.packages.now in
    let held = c.args.held.now in
    let whole = with_uids packages (map (λ ts. ts.keys) held) in
    rw c.in_ok-rights.ensures (uids_more c.loop-i.rights.items packages held c.loop-i.i whole c.index-packages-i.result
    c.index-held-i.result c.loop-i-test.true c.index-packages-i.is c.if-i-held.false c.index-held-i.is
    c.loop-i.invariant)
