use Rattle.std.proofs.Common.{ℕ, take, ap, ◌∙◌}
use Rattle.std.proofs.lemmas.List.{take_min}
use Rattle.am_audit_frames.proofs.endings.window.Goals as goal

pub returns : goal.returns
returns c = ap (λ (n : ℕ). take n c.args.input.now) c.min.ensures ∙ take_min 8192 c.args.input.now
