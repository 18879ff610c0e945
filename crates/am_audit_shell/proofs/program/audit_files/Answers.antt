use Rattle.am_audit_shell.proofs.Outcomes.{went}
use Rattle.am_audit_shell.proofs.program.audit_files.Goals as goal

pub returns-in-Ok : goal.returns-in-Ok
returns-in-Ok g c =
    went _ c.audit_held.result _ _ _ _ _ c.in_ok-text.text c.deref.result.now c.in_ok-device.device _
    c.in_ok-text.ensures.answer c.deref.ensures.value c.in_ok-device.ensures.parses c.in_ok-text.ensures.files
    c.in-Ok.ensures.read c.audit_held.ensures
