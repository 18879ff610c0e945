use Rattle.am_history.specs.State.{State}
use Rattle.am_laws_state.specs.Sound.{IsSoundState}
use Rattle.am_live_packages.specs.Changes.{with_known}
use Rattle.am_live_packages.proofs.PackageLemmas.{bad_manifest}
use Rattle.am_live_packages.proofs.known.Known.plan_install.Goals as goal

pub returns-in-Err-Fault : goal.returns-in-Err-Fault
returns-in-Err-Fault c = λ (state : State) (sound : IsSoundState (with_known state c.args.self.now)).
    bad_manifest (with_known state c.args.self.now) c.args.caller c.requires c.args.text.now c.args.key.now
    c.in-Err-Fault.fault (rw c.in-Err-Fault.field-0-is at c.in-Err-Fault.ensures.reads)
