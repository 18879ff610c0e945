use Rattle.am_audit_frames.proofs.Frames.{waits_silently}
use Rattle.am_audit_frames.proofs.endings.waiting_text.Goals as goal

pub returns-else-input-ge-MAX_HEAD : goal.returns-else-input-ge-MAX_HEAD
returns-else-input-ge-MAX_HEAD c = waits_silently c.args.input.now c.if-input-ge-MAX_HEAD.false
