use Rattle.std.proofs.Common.{◌≡◌, ap, ◌∙◌, List, Some, None}
use Rattle.am_types.specs.declared.device.Package.{Package}
use Rattle.am_model.specs.Boards.{package_at}
use Rattle.am_installed.proofs.Rising.{rises}
use Rattle.am_resolve.proofs.Stopped.{stopped_at, stopped_in}
use Rattle.am_resolve.proofs.names.is_stopped.Goals as goal

pub returns-in-None : goal.returns-in-None
returns-in-None c =
    let found : None ≡ package_at c.packages.result.now c.args.uid = c.in-None.ensures in
    ap stopped_in (found ∙ ap (λ (ps : List Package). package_at ps c.args.uid) c.packages.ensures.packages)
    ∙ stopped_at c.args.installed.now.packages c.args.uid (rises _ c.packages.ensures.installed.rising)

pub returns-in-Some : goal.returns-in-Some
returns-in-Some c =
    let found : Some c.in-Some.package.now ≡ package_at c.packages.result.now c.args.uid = c.in-Some.ensures in
    ap stopped_in (found ∙ ap (λ (ps : List Package). package_at ps c.args.uid) c.packages.ensures.packages)
    ∙ stopped_at c.args.installed.now.packages c.args.uid (rises _ c.packages.ensures.installed.rising)
