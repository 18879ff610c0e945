use Rattle.std.proofs.Common.{[], ◌∷◌, ◌++◌, ap, ◌∙◌}
use Rattle.am_types.specs.declared.device.Package.{Package}
use Rattle.am_drill.specs.Draws.{after}
use Rattle.am_drill.specs.Devices.{package_of, packages_of}
use Rattle.am_drill.proofs.AfterDraws.{four_more, one_package_more}
use Rattle.am_drill.proofs.devices.packages.Goals as goal

pub loop-i-preserved : goal.loop-i-preserved
loop-i-preserved c =
    let i = c.loop-i.i in
    let state = c.args.draws.now in
    let so_far = c.loop-i.invariant in
    record {
      made = c.in_ok-push.ensures.items
          ∙ ap (λ items. items ++ c.in_ok-package.package ∷ []) so_far.made
          ∙ ap (λ (p : Package). packages_of i state ++ p ∷ []) (c.in_ok-package.ensures.made
          ∙ ap (package_of i) so_far.drawn)
          ∙ one_package_more i state;
      drawn = c.in_ok-package.ensures.drawn ∙ ap (after 4) so_far.drawn ∙ four_more i state;
    }
