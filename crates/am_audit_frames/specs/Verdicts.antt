-- The verdict of an audit of a connection.
use Rattle.std.specs.Prelude.{◌≡◌, ℕ, ◌<◌, List, ◌++◌, length}
use Rattle.am_frames.specs.Head.{Frame}
use Rattle.am_http.specs.Sessions.{most_frames}
use Rattle.am_audit_answers.specs.Audits.{AreResponses, BeginsAudited, Ground}
use Rattle.am_audit_frames.specs.declared.audit.Verdict.{Verdict}
use Rattle.am_audit_frames.specs.declared.audit.Verdict.TheVariants as verdicts
use Rattle.am_audit_frames.specs.Streams.{AreFirst, EndsWith}

-- what is audited: the bytes that were read on a connection, and those that were written
pub record Transcript : Type 0 where
  pub frames : List ℕ
  pub responses : List ℕ

-- the responses are those to all frames, of which there are so many, and then what may be written last
pub record IsAuditedWhole (ground : Ground) (t : Transcript) (count : ℕ) : Type 0 where
  pub frames : List Frame
  pub bytes : List ℕ
  pub last : List ℕ
  pub ends : EndsWith most_frames t.frames frames last
  pub audited : AreResponses ground frames bytes
  pub output : t.responses ≡ bytes ++ last
  pub counted : count ≡ length frames

-- so many first frames are the most that some first bytes of the responses answer, and the whole isn't
-- audited
pub record IsAuditedUpTo (ground : Ground) (t : Transcript) (count : ℕ) : Type 0 where
  pub frames : List Frame
  pub first : AreFirst most_frames t.frames frames
  pub counted : count ≡ length frames
  pub audited : BeginsAudited ground frames t.responses
  pub greatest : (more : List Frame) → AreFirst most_frames t.frames more → count < length more
      → BeginsAudited ground more t.responses → ⊥
  pub not_whole : (all : ℕ) → IsAuditedWhole ground t all → ⊥

-- what the audit says
abbrev pub IsVerdict : Ground → Transcript → Verdict → Type 0
IsVerdict ground t (verdicts.Whole count) = IsAuditedWhole ground t count
IsVerdict ground t (verdicts.UpTo count) = IsAuditedUpTo ground t count
