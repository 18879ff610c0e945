-- What the files of an audit hold, and the audit's result.
use Rattle.std.specs.Prelude.{◌≡◌, ℕ, ◌||◌, ◌⊎◌, nat_lt, List, length, if◌then◌else◌, Option, Some, None, Ok}
use Rattle.am_types.specs.declared.device.Device.{Device}
use Rattle.am_types.specs.declared.history.Entry.{Entry}
use Rattle.am_outside.specs.Counts.{HasRisen}
use Rattle.am_outside.specs.declared.files.FileBytes.{FileBytes}
use Rattle.am_history.specs.State.{opening}
use Rattle.am_audit_history.specs.Histories.{IsHistory, IsRefusedAt, lines_in}
use Rattle.am_audit_frames.specs.declared.audit.Verdict.{Verdict}
use Rattle.am_audit_answers.specs.Audits.{Ground}
use Rattle.am_audit_frames.specs.Verdicts.{IsVerdict, Transcript}
use Rattle.am_console.specs.Devices.{Describes}
use Rattle.am_console.specs.Files.{Holds, IsMissing, Shelf}
use Rattle.am_audit_shell.specs.declared.finding.Part.{Part}
use Rattle.am_audit_shell.specs.declared.finding.Part.TheVariants as parts
use Rattle.am_audit_shell.specs.Words.{Named}

-- what a history file and a transcript hold
pub record Contents : Type 0 where
  pub history : List ℕ
  pub frames : List ℕ
  pub responses : List ℕ

-- the named files hold this
pub record AreHeld (files : Option (List FileBytes)) (named : Named) (c : Contents) : Type 0 where
  pub history : Holds files named.history c.history
  pub frames : Holds files named.frames c.frames
  pub responses : Holds files named.responses c.responses

-- the most bytes that a file may have, and the most lines of a history
abbrev pub most_bytes : ℕ
most_bytes = 16777216

abbrev pub most_lines : ℕ
most_lines = 65536

-- the first part that is over its limits, if any is
abbrev pub over_limit : Contents → Option Part
over_limit c =
    if nat_lt most_bytes (length c.history) || nat_lt most_lines (lines_in c.history) then Some parts.History
    else if nat_lt most_bytes (length c.frames) then Some parts.Frames
    else if nat_lt most_bytes (length c.responses) then Some parts.Responses
    else None

-- the files describe a device and hold this
pub record IsGiven (files : Option (List FileBytes)) (named : Named) (device : Device) (c : Contents) : Type 0 where
  pub describes : Describes files named.device (Ok device)
  pub contents : AreHeld files named c

-- what a history of a device is held against: it begins with the device's opening
abbrev pub ground_of : Device → List Entry → Ground
ground_of device history = record { start = opening device; history = history }

-- what is held against a history
abbrev pub transcript_of : Contents → Transcript
transcript_of c = record { frames = c.frames; responses = c.responses }

-- the contents are within their limits, the history could have been made from the device's opening, and the transcript
-- has this verdict
pub record HasVerdict (device : Device) (c : Contents) (verdict : Verdict) : Type 0 where
  pub within : over_limit c ≡ None
  pub history : List Entry
  pub read : IsHistory (opening device) c.history history
  pub judged : IsVerdict (ground_of device history) (transcript_of c) verdict

-- the contents are within their limits, and this line of the history is the first that is refused
pub record RefusesLine (device : Device) (c : Contents) (line : ℕ) : Type 0 where
  pub within : over_limit c ≡ None
  pub refused : IsRefusedAt (opening device) c.history line

-- the files describe a device, and what they hold has this verdict
pub record IsJudged (files : Option (List FileBytes)) (named : Named) (verdict : Verdict) : Type 0 where
  pub device : Device
  pub contents : Contents
  pub given : IsGiven files named device contents
  pub judged : HasVerdict device contents verdict

-- the files describe a device, and a part of what they hold is over its limits
pub record IsOverLimit (files : Option (List FileBytes)) (named : Named) (part : Part) : Type 0 where
  pub device : Device
  pub contents : Contents
  pub given : IsGiven files named device contents
  pub over : over_limit contents ≡ Some part

-- the files describe a device, and this line of the history that they hold is refused
pub record IsHistoryRefused (files : Option (List FileBytes)) (named : Named) (line : ℕ) : Type 0 where
  pub device : Device
  pub contents : Contents
  pub given : IsGiven files named device contents
  pub refused : RefusesLine device contents line

-- a file wasn't read: the count of faults rose, or no file has the name
abbrev pub IsUnread : Shelf → Shelf → Named → Type 0
IsUnread before after named =
    HasRisen before.faults after.faults ⊎ IsMissing before.files named.device ⊎ IsMissing before.files named.history
    ⊎ IsMissing before.files named.frames ⊎ IsMissing before.files named.responses
