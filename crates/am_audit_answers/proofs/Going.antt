-- A replay that goes on with the next entry of the history.
use Rattle.std.proofs.Common.{◌≡◌, ℕ, zero, suc, ◌+◌, ◌<◌, List, [], ◌∷◌, ◌++◌, length, take, get_or, refl, sym, ap, ◌∙◌, subst, append_assoc, append-nil, arith}
use Rattle.std.specs.Prelude.{Some, All, slice_get}
use Rattle.std.proofs.lemmas.List.{length_push, take_more}
use Rattle.std.proofs.lemmas.Option.{get_or_from_slice_get, none-some, same_Some, slice_get_read, slice_get_within}
use Rattle.am_types.specs.declared.history.Entry.{Entry}
use Rattle.am_history.specs.State.{State}
use Rattle.am_history.specs.History.{IsLegal, IsLegalFrom, MayBeNext, replay}
use Rattle.am_audit_history.specs.Replays.{Replay, state_of}
use Rattle.am_audit_history.specs.Lines.{IsWhole}
use Rattle.am_audit_answers.specs.Audits.{Ground}
use Rattle.am_audit_answers.specs.Matching.{IsReplayed}

-- an entry that was read at a place is the one there
pub next_there : (history : List Entry) (at place : ℕ) (next : Entry) → place ≡ at → place < length history → next
    ≡ get_or history place next
    → slice_get history at ≡ Some next
next_there history at place next same within is =
    subst (λ (n : ℕ). slice_get history n ≡ Some next) same (slice_get_read history (length history) place next refl
    within is)

-- it is whole if each is
pub next_is_whole : (history : List Entry) (at : ℕ) (next : Entry) → All IsWhole history → slice_get history at
    ≡ Some next → IsWhole next
next_is_whole history at next whole there =
    subst IsWhole (get_or_from_slice_get history at next next there)
    (whole at next (slice_get_within history at next there))

-- each entry of a legal history may be next at its place
legal_at_from : (opening : State) (before entries : List Entry) (at : ℕ) (entry : Entry)
    → IsLegalFrom opening before entries
    → slice_get entries at ≡ Some entry → MayBeNext (replay opening (before ++ take at entries))
    (before ++ take at entries) entry
legal_at_from opening before [] at entry legal is = absurd (none-some entry is)
legal_at_from opening before (first ∷ others) zero entry legal is =
    let same : first ≡ entry = same_Some _ _ is in
    subst (λ (h : List Entry). MayBeNext (replay opening h) h entry) (sym (append-nil before))
    (subst (MayBeNext (replay opening before) before) same legal.0)
legal_at_from opening before (first ∷ others) (suc at) entry legal is =
    subst (λ (h : List Entry). MayBeNext (replay opening h) h entry) (append_assoc before (first ∷ []) (take at others))
    (legal_at_from opening (before ++ first ∷ []) others at entry legal.1 is)

pub next_is_legal : (history : List Entry) (before : Replay) (next : Entry) → IsLegal before.start history
    → IsReplayed (record { start = before.start; history = history }) before → slice_get history (length before.history)
    ≡ Some next
    → MayBeNext (state_of before) before.history next
next_is_legal history before next legal first there =
    subst (λ (h : List Entry). MayBeNext (replay before.start h) h next) (sym first.first)
    (legal_at_from before.start [] history (length before.history) next legal there)

-- one entry more was replayed
pub one_more : (before after : Replay) (next : Entry) → after.history ≡ before.history ++ next ∷ []
    → length after.history ≡ length before.history + 1
one_more before after next goes = ap (λ (h : List Entry). length h) goes ∙ length_push before.history next

pub next_is_replayed : (ground : Ground) (before after : Replay) (next : Entry) → IsReplayed ground before
    → slice_get ground.history (length before.history) ≡ Some next → after.start ≡ before.start → after.history
    ≡ before.history ++ next ∷ []
    → IsReplayed ground after
next_is_replayed ground before after next first there start goes =
    let at : ℕ = length before.history in
    let count : length after.history ≡ at + 1 = one_more before after next goes in
    let within : at < length ground.history = slice_get_within ground.history at next there in
    let more : take (at + 1) ground.history ≡ take at ground.history ++ next ∷ [] =
    take_more ground.history at next within
    ∙ ap (λ (entry : Entry). take at ground.history ++ entry ∷ [])
    (get_or_from_slice_get ground.history at next next there) in
    record {
      start = start ∙ first.start;
      within = omega (arith, within, count);
      first = goes ∙ (ap (λ (h : List Entry). h ++ next ∷ []) first.first
          ∙ (sym more ∙ ap (λ (n : ℕ). take n ground.history) (sym count)));
    }
