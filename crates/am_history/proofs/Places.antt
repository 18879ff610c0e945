-- What stands at a place of a history.
use Rattle.std.proofs.Common.{◌≡◌, List, [], ◌∷◌, ◌++◌, sym, ap, ◌∙◌, subst, append_assoc, append-nil}
use Rattle.am_types.specs.declared.history.Entry.{Entry}
use Rattle.am_history.specs.State.{State}
use Rattle.am_history.specs.Steps.{step}
use Rattle.am_history.specs.History.{replay, replay_from, MayBeNext, IsLegal, IsLegalFrom}

-- the last of the entries behind `before` would be stored at its place
legal_last_from : (opening : State) (before entries : List Entry) (entry : Entry)
    → IsLegalFrom opening before (entries ++ entry ∷ [])
    → MayBeNext (replay opening (before ++ entries)) (before ++ entries) entry
legal_last_from opening before [] entry legal =
    subst (λ (h : List Entry). MayBeNext (replay opening h) h entry) (sym (append-nil before)) legal.0
legal_last_from opening before (first ∷ others) entry legal =
    subst (λ (h : List Entry). MayBeNext (replay opening h) h entry) (append_assoc before (first ∷ []) others)
    (legal_last_from opening (before ++ first ∷ []) others entry legal.1)

-- the last entry of a legal history would be stored at its place
pub legal_last : (opening : State) (entries : List Entry) (entry : Entry) → IsLegal opening (entries ++ entry ∷ [])
    → MayBeNext (replay opening entries) entries entry
legal_last opening entries entry legal = legal_last_from opening [] entries entry legal

-- entries behind `before` and one more
replay_from_more : (state : State) (before entries : List Entry) (entry : Entry)
    → replay_from state before (entries ++ entry ∷ []) ≡ (step (replay_from state before entries) (before ++ entries)
    entry).1
replay_from_more state before [] entry =
    ap (λ h. (step state h entry).1) (sym (append-nil before))
replay_from_more state before (first ∷ others) entry =
    replay_from_more (step state before first).1 (before ++ first ∷ []) others entry
    ∙ ap (λ h. (step (replay_from (step state before first).1 (before ++ first ∷ []) others) h entry).1)
    (append_assoc before (first ∷ []) others)

-- the state after one more entry is what its step leaves
pub replay_more : (opening : State) (entries : List Entry) (entry : Entry)
    → replay opening (entries ++ entry ∷ []) ≡ (step (replay opening entries) entries entry).1
replay_more opening entries entry = replay_from_more opening [] entries entry

-- each of these entries and one more
legal_from_more : (opening : State) (before entries : List Entry) (entry : Entry) → IsLegalFrom opening before entries
    → MayBeNext (replay opening (before ++ entries)) (before ++ entries) entry
    → IsLegalFrom opening before (entries ++ entry ∷ [])
legal_from_more opening before [] entry legal next =
    (subst (λ (h : List Entry). MayBeNext (replay opening h) h entry) (append-nil before) next, tt)
legal_from_more opening before (first ∷ others) entry legal next = (
  legal.0,
  legal_from_more opening (before ++ first ∷ []) others entry legal.1
      (subst (λ (h : List Entry). MayBeNext (replay opening h) h entry) (sym (append_assoc before (first ∷ []) others))
      next),
)

-- a legal history and an entry that may be next
pub legal_more : (opening : State) (entries : List Entry) (entry : Entry) → IsLegal opening entries
    → MayBeNext (replay opening entries) entries entry → IsLegal opening (entries ++ entry ∷ [])
legal_more opening entries entry legal next = legal_from_more opening [] entries entry legal next
