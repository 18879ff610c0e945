use Rattle.std.proofs.Common.{eqb, cond, arith}
use Rattle.std.proofs.lemmas.Grind.{common_steps}
use Rattle.std.proofs.lemmas.List.Edits.{map_over_more}
use Rattle.am_types.specs.declared.device.Package.{Package}
use Rattle.am_installed.proofs.lists.set_stopped.Goals as goal

pub loop-place-preserved : goal.loop-place-preserved
loop-place-preserved c =
    rw c.stop_if.ensures
    (map_over_more (λ (p : Package). cond (eqb p.uid c.args.uid) (record p { stopped = c.args.stopped }) p)
    c.args.packages.now.items c.loop-place.packages.items c.loop-place.place c.index_mut-package.result.now
    (grind (arith, common_steps)) c.loop-place.invariant c.index_mut-package.ensures.value)
