use Rattle.std.proofs.Common.{refl, arith}
use Rattle.std.proofs.lemmas.Int.{to_z-of_z}
use Rattle.am_model.specs.Links.{browsers_of}
use Rattle.am_links.proofs.Greatest.{at_least_none, joined_at, stays}
use Rattle.am_links.proofs.browsers.greatest_of.Goals as goal

pub loop-candidate-init : goal.loop-candidate-init
loop-candidate-init c = (at_least_none (browsers_of c.as_slice-candidate-items.result.now), refl)

pub loop-candidate-preserved : goal.loop-candidate-preserved
loop-candidate-preserved c =
    let next = joined_at _ c.as_slice-candidate-items.result.now c.loop-candidate.candidate-index
    c.candidate-item.result _ c.with_browser-most.ensures c.loop-candidate-test.true c.candidate-item.is
    c.loop-candidate.invariant.0 in
    let kept = stays _ c.candidate-item.result _ c.with_browser-most.ensures c.loop-candidate.invariant.1 in
    (grind (arith, to_z-of_z), grind (arith, to_z-of_z))
