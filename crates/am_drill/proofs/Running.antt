-- Calls one after the other, of which some are made and some are left.
use Rattle.std.proofs.Common.{◌≡◌, ℕ, suc, ◌+◌, ◌-◌, ◌<◌, List, [], ◌∷◌, ◌++◌, map, sym, ap, ◌∙◌, append_assoc, append-nil, arith}
use Rattle.std.specs.List.{range_with_len}
use Rattle.am_types.specs.declared.history.Entry.{Entry}
use Rattle.am_history.specs.State.{State}
use Rattle.am_history.specs.Desks.{DeskView, IsSameDesk, Origin, Sharing, opening_of, start_of}
use Rattle.am_history.specs.Steps.{Call}
use Rattle.am_wire_values.specs.Replies.{status_of}
use Rattle.am_drill.specs.Calls.{before, behind, call_at, calls_of}
use Rattle.am_drill.specs.Desks.{IsAlone}
use Rattle.am_drill.specs.Drills.{answer, history_after, history_of, statuses_of}
use Rattle.am_drill.proofs.Lines.{first_left, none_left}

-- the calls from number j on
abbrev pub calls_left : ℕ → ℕ → ℕ → ℕ → List Call
calls_left packages requests j state = map (λ j. call_at packages j (before j state)) (range_with_len j (requests - j))

-- all of them, at the beginning
pub all_left : (packages requests state : ℕ) → calls_left packages requests 0 state ≡ calls_of packages requests state
all_left packages requests state =
    let e : requests - 0 ≡ requests = omega arith in
    ap (λ n. map (λ j. call_at packages j (before j state)) (range_with_len 0 n)) e

-- none, at the end
pub no_call_left : (packages requests state : ℕ) → calls_left packages requests requests state ≡ []
no_call_left packages requests state = ap (map (λ j. call_at packages j (before j state))) (none_left requests)

-- the draws behind one more call
pub drawn_more : (j state : ℕ) → behind (before j state) ≡ before (j + 1) state
drawn_more j state =
    let e : suc j ≡ j + 1 = omega arith in
    ap (λ n. before n state) e

module _ (start : State) (history after : List Entry) (packages requests j state : ℕ) (below : j < requests)
    (next : after ≡ history_after start history (call_at packages j (before j state))) where
  first_call : calls_left packages requests j state ≡ call_at packages j (before j state)
      ∷ calls_left packages requests (j + 1) state
  first_call = ap (map (λ j. call_at packages j (before j state))) (first_left j requests below)

  pub history_goes_on : (whole : List Entry) → history_of start history (calls_left packages requests j state) ≡ whole
      → history_of start after (calls_left packages requests (j + 1) state) ≡ whole
  history_goes_on whole so_far =
      ap (λ (h : List Entry). history_of start h (calls_left packages requests (j + 1) state)) next
      ∙ ap (history_of start history) (sym first_call)
      ∙ so_far

  pub statuses_go_on : (statuses whole : List ℕ) (status : ℕ)
      → status ≡ status_of (answer start history (call_at packages j (before j state)))
      → statuses ++ statuses_of start history (calls_left packages requests j state) ≡ whole
      → (statuses ++ status ∷ []) ++ statuses_of start after (calls_left packages requests (j + 1) state) ≡ whole
  statuses_go_on statuses whole status is so_far =
      append_assoc statuses (status ∷ []) (statuses_of start after (calls_left packages requests (j + 1) state))
      ∙ ap (λ (s : ℕ). statuses ++ s ∷ statuses_of start after (calls_left packages requests (j + 1) state)) is
      ∙ ap (λ (h : List Entry). statuses ++ status_of (answer start history (call_at packages j (before j state)))
      ∷ statuses_of start h (calls_left packages requests (j + 1) state)) next
      ∙ ap (λ (calls : List Call). statuses ++ statuses_of start history calls) (sym first_call)
      ∙ so_far

-- nothing is left at the end
pub statuses_end : (start : State) (history : List Entry) (packages requests state : ℕ) (statuses whole : List ℕ)
    → statuses ++ statuses_of start history (calls_left packages requests requests state) ≡ whole → statuses ≡ whole
statuses_end start history packages requests state statuses whole so_far =
    sym (append-nil statuses)
    ∙ ap (λ (calls : List Call). statuses ++ statuses_of start history calls)
    (sym (no_call_left packages requests state))
    ∙ so_far

pub history_ends : (start : State) (history : List Entry) (packages requests state : ℕ) (whole : List Entry)
    → history_of start history (calls_left packages requests requests state) ≡ whole → history ≡ whole
history_ends start history packages requests state whole so_far =
    ap (history_of start history) (sym (no_call_left packages requests state)) ∙ so_far

-- the same desk is still nobody else's
pub alone_still : (old new : DeskView) → IsSameDesk old new → IsAlone old → IsAlone new
alone_still old new same alone = record {
  number = same.number ∙ alone.number;
  desks = ap (λ (s : Sharing). s.desks) same.sharing ∙ alone.desks;
}

-- a desk that stays the same is the same
pub same_twice : (first mid last : DeskView) → IsSameDesk first mid → IsSameDesk mid last → IsSameDesk first last
same_twice first mid last one two = record {
  origin = two.origin ∙ one.origin;
  number = two.number ∙ one.number;
  sharing = two.sharing ∙ one.sharing;
}

module _ (first desk : DeskView) (packages j state draws : ℕ) (same : IsSameDesk first desk)
    (drawn : draws ≡ before j state) where
  pub status_at : (status : ℕ) → status ≡ status_of (answer (start_of desk) desk.seen (call_at packages j draws))
      → status ≡ status_of (answer (start_of first) desk.seen (call_at packages j (before j state)))
  status_at status is =
      is
      ∙ ap (λ (origin : Origin). status_of (answer (opening_of origin) desk.seen (call_at packages j draws)))
      same.origin
      ∙ ap (λ (d : ℕ). status_of (answer (start_of first) desk.seen (call_at packages j d))) drawn

  pub history_at : (after : List Entry) → after ≡ history_after (start_of desk) desk.seen (call_at packages j draws)
      → after ≡ history_after (start_of first) desk.seen (call_at packages j (before j state))
  history_at after is =
      is
      ∙ ap (λ (origin : Origin). history_after (opening_of origin) desk.seen (call_at packages j draws)) same.origin
      ∙ ap (λ (d : ℕ). history_after (start_of first) desk.seen (call_at packages j d)) drawn
