-- What a keeper that tells its rows tells after a call is what the history has kept.
use Rattle.std.proofs.Common.{◌≡◌, Bool, true, false, true≢false, List, [], ◌∷◌, ◌++◌, Option, Some, None, refl, sym, ap, ◌∙◌}
use Rattle.std.specs.Prelude.{if◌then◌else◌, ◌&&◌, is_some}
use Rattle.std.specs.Option.{option_map}
use Rattle.am_types.specs.declared.history.Entry.{Entry}
use Rattle.am_types.specs.declared.reply.Reply.{Reply}
use Rattle.am_types.specs.declared.reply.Reply.TheVariants.{Refused}
use Rattle.am_types.specs.declared.rule.Rule.TheVariants.{KeeperFault}
use Rattle.am_keeper.specs.declared.rows.Row.{Row}
use Rattle.am_keeper.specs.declared.rows.Rows.{Rows}
use Rattle.am_history.specs.State.{State}
use Rattle.am_history.specs.Steps.{act, after_due, asks_keeper, is_refusal, keeps_row, step}
use Rattle.am_history.specs.History.{replay}
use Rattle.am_history.specs.Desks.{Origin, opening_of}
use Rattle.am_history.specs.Kept.{row_of}
use Rattle.am_laws_kept.specs.Found.{row_kept, rows_after}
use Rattle.am_laws_kept.specs.Found.{with_kept as with_found}
use Rattle.am_laws_kept.proofs.Found.{rows_follow_history}
use Rattle.am_machine.specs.Keeping.{told_after, with_any}
use Rattle.am_machine.proofs.Kept.{has_no_row}

some_is : {X : Type 0} {x y : X} → Some x ≡ Some y → x ≡ y
some_is e = cc

-- a row that there may be is put in the same way
any_found : (row : Option Row) (rows : Rows) → with_any row rows ≡ with_found rows row
any_found None rows = refl
any_found (Some row) rows = refl

-- the reply to the request at its moment
abbrev answer_of : State → List Entry → Entry → Reply
answer_of state before entry = (act (after_due state entry.now) before entry.uid entry.request).0

-- the keeper isn't asked for what is refused
refused_asks : (state : State) (before : List Entry) (entry : Entry) → is_refusal (answer_of state before entry) ≡ true
    → asks_keeper (after_due state entry.now) before entry.uid entry.request ≡ false
refused_asks state before entry refused = by (keeps_row entry.request)
  where
    by : (b : Bool) → (if b then (if is_refusal (answer_of state before entry) then false else true) else false) ≡ false
    by true = ap (λ (b : Bool). if b then false else true) refused
    by false = refl

-- and what is accepted has the row kept that its request has
accepted_row : (state : State) (before : List Entry) (entry : Entry) (old : Rows) (keeps : Bool)
    → keeps_row entry.request ≡ keeps
    → is_refusal (answer_of state before entry) ≡ false
    → with_any (row_of state entry.request) old
    ≡ with_found old (if asks_keeper (after_due state entry.now) before entry.uid entry.request then row_of state
    entry.request else None)
accepted_row state before entry old keeps is accepted = by keeps is
  where
    asks : (b : Bool) → keeps_row entry.request ≡ b → asks_keeper (after_due state entry.now) before entry.uid
        entry.request ≡ b
    asks true e =
        ap (λ (b : Bool). if b then (if is_refusal (answer_of state before entry) then false else true) else false) e
        ∙ ap (λ (b : Bool). if b then false else true) accepted
    asks false e = ap (λ (b : Bool). if b then (if is_refusal (answer_of state before entry) then false else true) else
        false) e

    by : (b : Bool) → keeps_row entry.request ≡ b
        → with_any (row_of state entry.request) old
        ≡ with_found old (if asks_keeper (after_due state entry.now) before entry.uid entry.request then row_of state
        entry.request else None)
    by true e =
        any_found (row_of state entry.request) old
        ∙ ap (λ (b : Bool). with_found old (if b then row_of state entry.request else None)) (sym (asks true e))
    by false e =
        ap (λ (row : Option Row). with_any row old) (has_no_row state entry.request e)
        ∙ ap (λ (b : Bool). with_found old (if b then row_of state entry.request else None)) (sym (asks false e))

-- what is told after a call is the rows with the one that its entry has kept
told_is_kept : (state : State) (before : List Entry) (entry : Entry) (reply : Reply) (after : State) (old told : Rows)
    → step state before entry ≡ (reply, after) → told_after state entry.request reply (Some old) ≡ Some told
    → told ≡ with_found old (row_kept state before entry)
told_is_kept state before entry reply after old told does tells = by entry.kept (is_refusal reply) refl refl
  where
    stepped : (b : Bool) → entry.kept ≡ b
        → (if b then act (after_due state entry.now) before entry.uid entry.request else
        (Refused KeeperFault, after_due state entry.now)).0 ≡ reply
    stepped b e =
        ap (λ (c : Bool). (if c then act (after_due state entry.now) before entry.uid entry.request else
        (Refused KeeperFault, after_due state entry.now)).0) (sym e)
        ∙ ap (λ (answer : Reply × State). answer.0) does

    -- what is told, by whether the call was refused
    says : (b : Bool) → is_refusal reply ≡ b → (if b then Some old else option_map
        (with_any (row_of state entry.request)) (Some old)) ≡ Some told
    says b e = ap (λ (c : Bool). if c then Some old else option_map (with_any (row_of state entry.request)) (Some old))
        (sym e) ∙ tells

    -- the row that is kept, by whether the entry was
    row_is : (b : Bool) → entry.kept ≡ b
        → row_kept state before entry ≡ (if b && asks_keeper (after_due state entry.now) before entry.uid entry.request
        then row_of state entry.request else None)
    row_is b e = ap (λ (c : Bool). if c && asks_keeper (after_due state entry.now) before entry.uid entry.request then
        row_of state entry.request else None) e

    by : (kept refused : Bool) → entry.kept ≡ kept → is_refusal reply ≡ refused → told
        ≡ with_found old (row_kept state before entry)
    by true true k r =
        sym (some_is (says true r))
        ∙ ap (with_found old) (sym (row_is true k ∙ ap (λ (b : Bool). if b then row_of state entry.request else None)
        (refused_asks state before entry (ap (λ (x : Reply). is_refusal x) (stepped true k) ∙ r))))
    by true false k r =
        sym (some_is (says false r))
        ∙ accepted_row state before entry old (keeps_row entry.request) refl
        (ap (λ (x : Reply). is_refusal x) (stepped true k) ∙ r)
        ∙ ap (with_found old) (sym (row_is true k))
    by false true k r = sym (some_is (says true r)) ∙ ap (with_found old) (sym (row_is false k))
    by false false k r = absurd (true≢false (ap (λ (x : Reply). is_refusal x) (stepped false k) ∙ r))

-- the rows that a keeper tells after a call are those that the longer history has kept, if those before were
pub told_more : (origin : Origin) (live after : State) (history : List Entry) (entry : Entry) (reply : Reply)
    (old : Option Rows) (told : Rows)
    → replay (opening_of origin) history ≡ live → step live history entry ≡ (reply, after)
    → ((before : Rows) → old ≡ Some before → before ≡ rows_after (opening_of origin) origin.rows history)
    → true ≡ is_some old → told_after live entry.request reply old ≡ Some told
    → told ≡ rows_after (opening_of origin) origin.rows (history ++ entry ∷ [])
told_more origin live after history entry reply None told replayed does was tells put = absurd (true≢false tells)
told_more origin live after history entry reply (Some old) told replayed does was tells put =
    told_is_kept live history entry reply after old told does put
    ∙ ap (λ (rows : Rows). with_found rows (row_kept live history entry)) (was old refl)
    ∙ ap (λ (state : State). with_found (rows_after (opening_of origin) origin.rows history)
    (row_kept state history entry)) (sym replayed)
    ∙ sym (rows_follow_history (opening_of origin) origin.rows history entry)
