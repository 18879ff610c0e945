-- The files that the words name, as code has them.
use Rattle.am_audit_shell.specs.declared.words.NamedFiles.{NamedFiles}
use Rattle.am_audit_shell.specs.Words.{Named}

-- the names behind the references
abbrev pub named_at : NamedFiles → Named
named_at f = record { device = f.device.now; history = f.history.now; frames = f.frames.now; responses = f.responses.now }
