-- One line of a history file, after those that were read.
use Rattle.std.specs.Prelude.{ℕ, List, length, Option, Some, None}
use Rattle.am_types.specs.declared.history.Entry.{Entry}
use Rattle.am_history.specs.History.{MayBeNext}
use Rattle.am_audit_history.specs.Lines.{IsWritten}
use Rattle.am_audit_history.specs.Replays.{Replay, GoesOnWith, state_of}

-- the line is an entry with which the history went on, or it isn't an entry that may be next
abbrev pub TakesLine : Replay → List ℕ → Option (Replay × Entry) → Type 0
TakesLine before line (Some (after, entry)) = IsWritten (length before.history) entry line
    × GoesOnWith before entry after
TakesLine before line None =
    (entry : Entry) → IsWritten (length before.history) entry line → MayBeNext (state_of before) before.history entry
    → ⊥
