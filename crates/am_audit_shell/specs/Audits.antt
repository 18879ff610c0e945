-- A run of an audit, as its status, its files, its output and its errors show it.
use Rattle.std.specs.Prelude.{◌≡◌, ℕ, ◌⊎◌, codes, List, Option, Some, None, Result, Ok, Err, ⊤}
use Rattle.am_types.specs.declared.manifest.ManifestFault.{ManifestFault}
use Rattle.am_console.specs.declared.setback.Setback.{Setback}
use Rattle.am_console.specs.declared.setback.Setback.TheVariants as setbacks
use Rattle.am_console.specs.Devices.{Describes, refusal_line}
use Rattle.am_console.specs.Files.{Shelf}
use Rattle.am_console.specs.Setbacks.{setback_status}
use Rattle.am_audit_shell.specs.declared.finding.Finding.{Finding}
use Rattle.am_audit_shell.specs.declared.finding.Finding.TheVariants as findings
use Rattle.am_audit_shell.specs.Contents.{IsHistoryRefused, IsJudged, IsOverLimit, IsUnread}
use Rattle.am_console.specs.Telling.{OnlyTold, Prints, Voices}
use Rattle.am_audit_shell.specs.Lines.{history_line, limit_line, setback_line, verdict_line, verdict_status, no_memory_line}
use Rattle.am_audit_shell.specs.Words.{Named, named_by}

-- why there is no finding; running out of memory has no cause
abbrev pub HasCause : Setback → Named → Shelf → Shelf → Type 0
HasCause (setbacks.DeviceRefused line) named before after =
    (fault : ManifestFault) × Describes before.files named.device (Err fault)
    × (line ≡ refusal_line (codes "am_audit") fault)
HasCause setbacks.FileFault named before after = IsUnread before after named
HasCause setbacks.NoMemory named before after = ⊤

-- what is found of the named files
abbrev pub IsFound : Finding → Named → Shelf → Type 0
IsFound (findings.OverLimit part) named before = IsOverLimit before.files named part
IsFound (findings.HistoryRefused line) named before =
    (number : ℕ) × IsHistoryRefused before.files named number × (line ≡ history_line number)
IsFound (findings.Judged verdict) named before = IsJudged before.files named verdict

-- what is found, or why there is no finding
abbrev pub Happens : Result Finding Setback → Named → Shelf → Shelf → Type 0
Happens (Ok finding) named before after = IsFound finding named before
Happens (Err setback) named before after = HasCause setback named before after

-- how a finding is told: a verdict is printed, unless memory runs out for its line, and what else is found is told on
-- the errors
abbrev pub TellsFinding : Finding → Voices → Voices → ℕ → Type 0
TellsFinding (findings.OverLimit part) before after status = OnlyTold (limit_line part) 7 before after status
TellsFinding (findings.HistoryRefused line) before after status = OnlyTold line 5 before after status
TellsFinding (findings.Judged verdict) before after status =
    Prints (codes "am_audit: write fault\n") (verdict_line verdict) (verdict_status verdict) before after status
    ⊎ OnlyTold no_memory_line 8 before after status

-- how an audit is told: by what is found, or by the setback, on the errors
abbrev pub TellsWork : Result Finding Setback → Voices → Voices → ℕ → Type 0
TellsWork (Ok finding) before after status = TellsFinding finding before after status
TellsWork (Err setback) before after status =
    OnlyTold (setback_line setback) (setback_status setback) before after status

-- all that an audit may touch: the files, the output and the errors
pub record World : Type 0 where
  pub files : Shelf
  pub voices : Voices

-- an audit of the named files: its result, which the output, the errors and the status tell
pub record Went (named : Named) (before after : World) (status : ℕ) : Type 0 where
  pub work : Result Finding Setback
  pub happened : Happens work named before.files after.files
  pub told : TellsWork work before.voices after.voices status

-- an audit of the files that the words name, if they name them
abbrev pub AuditsNamed : Option Named → World → World → ℕ → Type 0
AuditsNamed None before after status =
    (after.files ≡ before.files) × OnlyTold (codes "am_audit: usage\n") 2 before.voices after.voices status
AuditsNamed (Some named) before after status = Went named before after status

-- a whole audit
abbrev pub Audits : List (List ℕ) → World → World → ℕ → Type 0
Audits words before after status = AuditsNamed (named_by words) before after status
