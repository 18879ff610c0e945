use Rattle.std.proofs.Common.{◌∙◌, sym}
use Rattle.am_history.specs.State.{State}
use Rattle.am_laws_state.specs.Sound.{IsSoundState}
use Rattle.am_live_packages.specs.Changes.{with_known}
use Rattle.am_live_packages.proofs.PackageLemmas.{not_admin}
use Rattle.am_live_packages.proofs.known.Known.plan.Goals as goal

pub returns-then-not-is_privileged : goal.returns-then-not-is_privileged
returns-then-not-is_privileged c = λ (state : State) (sound : IsSoundState (with_known state c.args.self.now)).
    not_admin (with_known state c.args.self.now) c.args.caller c.args.request.now
    (sym c.is_privileged.ensures ∙ c.if-not-is_privileged.true) c.requires
