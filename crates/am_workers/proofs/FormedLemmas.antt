-- The stored calls of exchanges are formed.
use Rattle.std.proofs.Common.{◌≡◌, ℕ, Bool, true, false, IsTrue, List, [], ◌∷◌, Option, None, sym, subst}
use Rattle.std.specs.Prelude.{All, slice_get, if◌then◌else◌}
use Rattle.std.specs.Bool.{OnTrue}
use Rattle.std.specs.List.{AllByRecursion}
use Rattle.std.specs.Option.{option_to_list}
use Rattle.std.proofs.lemmas.List.Elements.{All-nil, All-cons, All-append}
use Rattle.am_types.specs.declared.history.Entry.{Entry}
use Rattle.am_history.specs.State.{State}
use Rattle.am_history.specs.Steps.{has_formed_row}
use Rattle.am_workers.specs.Serving.{IsFormed}
use Rattle.am_http.specs.Exchanges.{Exchange, Point, HasEntry, IsAnswer, IsCalled, entry_at, stored_entries}
use Rattle.am_http.proofs.FormedLemmas.{a_read_request_is_formed}

-- what stands at a place where the entry that is meant is formed
stands : (stored : Bool) (history : List Entry) (at : ℕ) (IsMeant : Entry → Type 0)
    → ((entry : Entry) → IsMeant entry → IsFormed entry)
    → OnTrue stored (HasEntry history at IsMeant) → All IsFormed (if stored then option_to_list (slice_get history at)
    else [])
stands false history at IsMeant formed has = All-nil IsFormed
stands true history at IsMeant formed (entry, got, is) =
    subst (λ (found : Option Entry). All IsFormed (option_to_list found)) (sym got)
    (All-cons IsFormed entry [] (formed entry is) (All-nil IsFormed))

-- no call, no entry
no_point : (history : List Entry) (point : Option Point) → point ≡ None → All IsFormed (entry_at history point)
no_point history point none = subst (λ (p : Option Point). All IsFormed (entry_at history p)) (sym none)
    (All-nil IsFormed)

-- what a call became is formed
of_call : (start : State) (desk : ℕ) (history : List Entry) (e : Exchange) → IsCalled start desk history e
    → All IsFormed (entry_at history e.point)
of_call start desk history e c =
    subst (λ (p : Option Point). All IsFormed (entry_at history p)) (sym c.placed)
    (stands c.point.stored history c.point.at _
    (λ entry is. subst (λ request. IsTrue (has_formed_row request)) (sym is.request)
    (a_read_request_is_formed e.frame c.request c.asks))
    c.marked.entry)

of_exchange : (start : State) (desk : ℕ) (history : List Entry) (e : Exchange) → IsAnswer start desk history e
    → All IsFormed (entry_at history e.point)
of_exchange start desk history e (IsAnswer.by_refusal refused asks now point bytes) = no_point history e.point point
of_exchange start desk history e (IsAnswer.by_reply c bytes) = of_call start desk history e c
of_exchange start desk history e (IsAnswer.by_no_memory point bytes) = no_point history e.point point
of_exchange start desk history e (IsAnswer.by_late_no_memory c bytes) = of_call start desk history e c

-- what the stored calls became is formed
pub all_formed : (start : State) (desk : ℕ) (history : List Entry) (es : List Exchange)
    → AllByRecursion (IsAnswer start desk history) es
    → All IsFormed (stored_entries history es)
all_formed start desk history [] answers = All-nil IsFormed
all_formed start desk history (e ∷ es) answers =
    All-append IsFormed (entry_at history e.point) (stored_entries history es)
    (of_exchange start desk history e answers.0) (all_formed start desk history es answers.1)
