-- The lines that tell the result of an audit.
use Rattle.std.specs.Prelude.{ℕ, codes, decimal, List, ◌++◌}
use Rattle.am_audit_frames.specs.declared.audit.Verdict.{Verdict}
use Rattle.am_audit_frames.specs.declared.audit.Verdict.TheVariants as verdicts
use Rattle.am_console.specs.declared.setback.Setback.{Setback}
use Rattle.am_console.specs.declared.setback.Setback.TheVariants as setbacks
use Rattle.am_audit_shell.specs.declared.finding.Part.{Part}
use Rattle.am_audit_shell.specs.declared.finding.Part.TheVariants as parts

-- the line for running out of memory
abbrev pub no_memory_line : List ℕ
no_memory_line = codes "am_audit: out of memory\n"

-- the line for a history that is refused
abbrev pub history_line : ℕ → List ℕ
history_line line = codes "am_audit: history refused: " ++ decimal line ++ codes "\n"

-- the line for a file over its limits
abbrev pub limit_line : Part → List ℕ
limit_line parts.History = codes "am_audit: over limit: history\n"
limit_line parts.Frames = codes "am_audit: over limit: frames\n"
limit_line parts.Responses = codes "am_audit: over limit: responses\n"

-- the line for a setback
abbrev pub setback_line : Setback → List ℕ
setback_line (setbacks.DeviceRefused line) = line
setback_line setbacks.FileFault = codes "am_audit: file fault\n"
setback_line setbacks.NoMemory = no_memory_line

-- the line and the status of a verdict
abbrev pub verdict_line : Verdict → List ℕ
verdict_line (verdicts.Whole count) = codes "yes " ++ decimal count ++ codes "\n"
verdict_line (verdicts.UpTo count) = codes "no " ++ decimal count ++ codes "\n"

abbrev pub verdict_status : Verdict → ℕ
verdict_status (verdicts.Whole count) = 0
verdict_status (verdicts.UpTo count) = 1
