use Rattle.std.proofs.Common.{◌∙◌, ap, sym}
use Rattle.std.specs.Option.{option_copied}
use Rattle.am_history.specs.State.{State}
use Rattle.am_live_packages.specs.Changes.{with_known}
use Rattle.am_live_packages.proofs.PackageLemmas.{none_uninstalled, uninstalls}
use Rattle.am_live_packages.proofs.known.Known.plan_uninstall.Goals as goal

pub returns-in_default : goal.returns-in_default
returns-in_default c = λ (state : State).
    none_uninstalled (with_known state c.args.self.now) c.args.caller c.requires c.args.name.now
    (sym c.package_named.ensures ∙ ap option_copied c.in_default.is)

pub returns : goal.returns
returns c = λ (state : State).
    uninstalls (with_known state c.args.self.now) c.args.caller c.requires c.args.name.now c.in-Some.owner.now
    c.in_ok-row.row
    (sym c.package_named.ensures ∙ ap option_copied c.in-Some.is) c.in_ok-row.ensures
