use Rattle.am_history.specs.Desks.{opening_of}
use Rattle.am_audit_history.specs.Replays.{call_held}
use Rattle.am_audit_history.proofs.Kept.{shows_kept}
use Rattle.am_audit_history.proofs.replayed.kept_call.Goals as goal

pub returns-clause-shown : goal.returns-clause-shown
returns-clause-shown c =
    shows_kept (opening_of c.args.manager.now.origin) c.args.manager.now.history c.step.new.self.history
    (call_held c.args.call) c.step.result c.step.ensures.shown c.step.ensures.fault
