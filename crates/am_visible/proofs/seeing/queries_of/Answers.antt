-- The loop's step: a package of another uid.
use Rattle.std.proofs.Common.{◌∙◌, arith}
use Rattle.std.proofs.lemmas.Bool.{ne_eqb}
use Rattle.am_visible.proofs.Places.{goes_on}
use Rattle.am_visible.proofs.seeing.queries_of.Goals as goal

pub loop-i-preserved : goal.loop-i-preserved
loop-i-preserved c =
    let packages = c.as_slice-package-items.result.now in
    let queries = c.as_slice-queries.result.now in
    let other = ne_eqb c.package-item.result.uid c.args.uid c.if-package-uid.false in
    goes_on packages queries c.loop-i.i c.args.uid c.package-item.result c.loop-i-test.true c.package-item.is
    (omega (arith, c.if-i-queries.false)) other
    ∙ c.loop-i.invariant
