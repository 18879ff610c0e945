-- The lines of a history that were read, one more, and the end of reading.
use Rattle.std.proofs.Common.{◌≡◌, ℕ, ◌<◌, List, [], ◌∷◌, ◌++◌, length, sym, ap, ◌∙◌, subst, append_assoc, append-nil}
use Rattle.std.specs.Prelude.{Some, None}
use Rattle.std.proofs.lemmas.List.{nil_from_length}
use Rattle.am_types.specs.declared.history.Entry.{Entry}
use Rattle.am_history.specs.State.{State}
use Rattle.am_history.specs.History.{IsLegalFrom, MayBeNext, replay}
use Rattle.am_audit_history.specs.Lines.{IsWritten}
use Rattle.am_audit_history.specs.Histories.{IsHistory, IsRefusedAt, Reads, behind, line_in}
use Rattle.am_audit_history.specs.Reading.{TakesLine}
use Rattle.am_audit_history.specs.Replays.{Replay}

-- one more line behind those that were read
more_from : (start : State) (before : List Entry) (bytes : List ℕ) (read : List Entry) (rest : List ℕ) (entry : Entry)
    → Reads start before bytes read rest
    → 0 < length rest → IsWritten (length (before ++ read)) entry (line_in rest)
    → MayBeNext (replay start (before ++ read)) (before ++ read) entry
    → Reads start before bytes (read ++ entry ∷ []) (behind rest)
more_from start before bytes [] rest entry is some written next =
    let same : rest ≡ bytes = sym is in
    let here : before ++ [] ≡ before = append-nil before in
    let P : List ℕ → Type 0 = λ b. 0 < length b in
    let W : List ℕ → Type 0 = λ b. IsWritten (length before) entry (line_in b) in
    let N : List Entry → Type 0 = λ h. IsWritten (length h) entry (line_in rest) in
    let M : List Entry → Type 0 = λ h. MayBeNext (replay start h) h entry in
    (subst P same some, subst W same (subst N here written), subst M here next, ap behind is)
more_from start before bytes (first ∷ others) rest entry is some written next =
    let here : before ++ (first ∷ others) ≡ (before ++ first ∷ [])
    ++ others = sym (append_assoc before (first ∷ []) others) in
    let N : List Entry → Type 0 = λ h. IsWritten (length h) entry (line_in rest) in
    let M : List Entry → Type 0 = λ h. MayBeNext (replay start h) h entry in (
      is.0,
      is.1,
      is.2,
      more_from start (before ++ first ∷ []) (behind bytes) others rest entry is.3 some
          (subst N here written) (subst M here next),
    )

pub reads_more : (start : State) (bytes : List ℕ) (read : List Entry) (rest : List ℕ) (entry : Entry)
    → Reads start [] bytes read rest
    → 0 < length rest → IsWritten (length read) entry (line_in rest) → MayBeNext (replay start read) read entry
    → Reads start [] bytes (read ++ entry ∷ []) (behind rest)
reads_more start bytes read rest entry is some written next = more_from start [] bytes read rest entry is some written
    next

-- the entries of lines that were read could have been made
legal_from : (start : State) (before : List Entry) (bytes : List ℕ) (read : List Entry) (rest : List ℕ)
    → Reads start before bytes read rest
    → IsLegalFrom start before read
legal_from start before bytes [] rest is = tt
legal_from start before bytes (first ∷ others) rest is = (
  is.2,
  legal_from start (before ++ first ∷ []) (behind bytes)
      others rest is.3,
)

-- the history of a text of which nothing is left
pub ends_history : (start : State) (bytes : List ℕ) (read : List Entry) (rest : List ℕ) (made : List Entry)
    → Reads start [] bytes read rest
    → length rest ≡ 0 → made ≡ read → IsHistory start bytes made
ends_history start bytes read rest made is none same =
    let whole : IsHistory start bytes read = record {
      reads = subst (Reads start [] bytes read) (nil_from_length rest none) is;
      legal = legal_from start [] bytes read rest is;
    } in
    subst (IsHistory start bytes) (sym same) whole

-- the first line that is refused
pub is_refused : (start : State) (bytes : List ℕ) (replayed : Replay) (rest line : List ℕ) (number : ℕ) → replayed.start
    ≡ start
    → Reads start [] bytes replayed.history rest → 0 < length rest → number ≡ length replayed.history → line
    ≡ line_in rest
    → TakesLine replayed line None → IsRefusedAt start bytes number
is_refused start bytes replayed rest line number begins is more count first refused = record {
  before = replayed.history;
  rest = rest;
  reads = is;
  number = count;
  more = more;
  refused = λ entry written next.
      let here : IsWritten (length replayed.history) entry (line_in rest) = subst
      (λ (n : ℕ). IsWritten n entry (line_in rest)) count written in
      let again : MayBeNext (replay replayed.start replayed.history) replayed.history entry =
      subst (λ (s : State). MayBeNext (replay s replayed.history) replayed.history entry) (sym begins) next in
      refused entry (subst (IsWritten (length replayed.history) entry) (sym first) here) again;
}

-- a line that is taken
pub goes_on_reading : (start : State) (bytes : List ℕ) (replayed after : Replay) (rest line left : List ℕ)
    (entry : Entry) → replayed.start ≡ start
    → Reads start [] bytes replayed.history rest → 0 < length rest → line ≡ line_in rest → left ≡ behind rest
    → TakesLine replayed line (Some (after, entry)) → (after.start ≡ start) × Reads start [] bytes after.history left
goes_on_reading start bytes replayed after rest line left entry begins is more first others taken =
    let next : MayBeNext (replay start replayed.history) replayed.history entry =
    subst (λ (s : State). MayBeNext (replay s replayed.history) replayed.history entry) begins taken.1.next in
    let read : Reads start [] bytes (replayed.history ++ entry ∷ []) (behind rest) =
    reads_more start bytes replayed.history rest entry is more (subst (IsWritten (length replayed.history) entry) first
    taken.0) next in (
      taken.1.start ∙ begins,
      subst (Reads start [] bytes after.history) (sym others)
          (subst (λ (h : List Entry). Reads start [] bytes h (behind rest)) (sym taken.1.history) read),
    )
