-- A history file: its lines, one entry each, and the first line that is refused.
use Rattle.std.specs.Prelude.{◌≡◌, ℕ, ◌+◌, ◌<◌, ◌==◌, Bool, List, [], ◌∷◌, ◌++◌, length, take, drop, min, Result, Ok, Err, if◌then◌else◌}
use Rattle.std.specs.List.{count_by, position_or_len}
use Rattle.am_types.specs.declared.history.Entry.{Entry}
use Rattle.am_history.specs.State.{State}
use Rattle.am_history.specs.History.{IsLegal, MayBeNext, replay}
use Rattle.am_audit_history.specs.Lines.{IsWritten}

-- the byte that ends a line
abbrev pub is_newline : ℕ → Bool
is_newline b = b == 10

-- the length of the first line, with its newline if it has one
abbrev pub line_length : List ℕ → ℕ
line_length bytes = min (position_or_len is_newline bytes + 1) (length bytes)

-- the first line, and what follows it
abbrev pub line_in : List ℕ → List ℕ
line_in bytes = take (line_length bytes) bytes

abbrev pub behind : List ℕ → List ℕ
behind bytes = drop (line_length bytes) bytes

-- how many lines there are; what follows the last newline is a line if it has bytes
abbrev pub last_line : List ℕ → ℕ
last_line [] = 0
last_line (b ∷ []) = if is_newline b then 0 else 1
last_line (b ∷ c ∷ bytes) = last_line (c ∷ bytes)

abbrev pub lines_in : List ℕ → ℕ
lines_in bytes = count_by is_newline bytes + last_line bytes

-- the entries `before` came first; the next lines are these entries, each of which may be next, and then come the
-- remaining bytes
abbrev pub Reads : State → List Entry → List ℕ → List Entry → List ℕ → Type 0
Reads start before bytes [] rest = bytes ≡ rest
Reads start before bytes (first ∷ others) rest =
    (0 < length bytes) × IsWritten (length before) first (line_in bytes) × MayBeNext (replay start before) before first
    × Reads start (before ++ first ∷ []) (behind bytes) others rest

-- the text of a history is these entries, one in each line, and the history could have been made
pub record IsHistory (start : State) (bytes : List ℕ) (history : List Entry) : Type 0 where
  pub reads : Reads start [] bytes history []
  pub legal : IsLegal start history

-- the line with this number is the first that isn't an entry, or whose entry wouldn't be stored there
pub record IsRefusedAt (start : State) (bytes : List ℕ) (line : ℕ) : Type 0 where
  pub before : List Entry
  pub rest : List ℕ
  pub reads : Reads start [] bytes before rest
  pub number : line ≡ length before
  pub more : 0 < length rest
  pub refused : (entry : Entry) → IsWritten line entry (line_in rest) → MayBeNext (replay start before) before entry → ⊥

-- the history that a text is, or the number of the first line that is refused
abbrev pub IsReadAs : State → List ℕ → Result (List Entry) ℕ → Type 0
IsReadAs start bytes (Ok history) = IsHistory start bytes history
IsReadAs start bytes (Err line) = IsRefusedAt start bytes line
