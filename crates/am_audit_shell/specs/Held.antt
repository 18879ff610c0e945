-- Reading the files of an audit except the device's, and the result.
use Rattle.std.specs.Prelude.{◌≡◌, ℕ, ◌⊎◌, List, Option, Some, Result, Ok, Err, ⊤}
use Rattle.am_types.specs.declared.device.Device.{Device}
use Rattle.am_types.specs.declared.history.Entry.{Entry}
use Rattle.am_outside.specs.Counts.{HasRisen}
use Rattle.am_outside.specs.declared.files.FileBytes.{FileBytes}
use Rattle.am_audit_frames.specs.Verdicts.{IsVerdict}
use Rattle.am_console.specs.declared.setback.Setback.{Setback}
use Rattle.am_console.specs.declared.setback.Setback.TheVariants as setbacks
use Rattle.am_console.specs.Files.{IsMissing, Shelf}
use Rattle.am_audit_shell.specs.declared.contents.Held.{Held}
use Rattle.am_audit_shell.specs.declared.finding.Finding.{Finding}
use Rattle.am_audit_shell.specs.declared.finding.Finding.TheVariants as findings
use Rattle.am_audit_shell.specs.Contents.{AreHeld, Contents, HasVerdict, RefusesLine, ground_of, over_limit, transcript_of}
use Rattle.am_audit_shell.specs.Lines.{history_line}
use Rattle.am_audit_shell.specs.Words.{Named}

-- what was read, as clauses see it
abbrev pub contents_of : Held → Contents
contents_of h = record { history = h.history.items; frames = h.frames.items; responses = h.responses.items }

-- the files that were read
abbrev pub ReadsAll : Option (List FileBytes) → Named → Contents → Type 0
ReadsAll files named contents = AreHeld files named contents

-- why they weren't read: the count of faults rose, no file has one of the names, or memory ran out
abbrev pub FailsToRead : Setback → Shelf → Shelf → Named → Type 0
FailsToRead (setbacks.DeviceRefused line) before after named = ⊥
FailsToRead setbacks.FileFault before after named =
    HasRisen before.faults after.faults ⊎ IsMissing before.files named.history
    ⊎ IsMissing before.files named.frames ⊎ IsMissing before.files named.responses
FailsToRead setbacks.NoMemory before after named = ⊤

-- the verdict on what is held, by this history of the device, unless memory ran out
abbrev pub Judges : Result Finding Setback → Device → List Entry → Contents → Type 0
Judges (Ok (findings.Judged verdict)) device history c = IsVerdict (ground_of device history) (transcript_of c) verdict
Judges (Err setbacks.NoMemory) device history c = ⊤
Judges _ device history c = ⊥

-- what is found of what is held, for this device, unless memory ran out
abbrev pub ComesTo : Result Finding Setback → Device → Contents → Type 0
ComesTo (Ok (findings.OverLimit part)) device c = over_limit c ≡ Some part
ComesTo (Ok (findings.HistoryRefused line)) device c =
    (number : ℕ) × RefusesLine device c number × (line ≡ history_line number)
ComesTo (Ok (findings.Judged verdict)) device c = HasVerdict device c verdict
ComesTo (Err setbacks.NoMemory) device c = ⊤
ComesTo _ device c = ⊥
