-- What was done is found again at an opening.
use Rattle.std.proofs.Common.{◌≡◌, ℕ, Bool, true, false, ◌&&◌, cond, List, [], ◌∷◌, ◌++◌, refl, sym, ap, ◌∙◌, subst, append_assoc, append-nil}
use Rattle.std.specs.Prelude.{All, IsTrue, Option, Some, None, Ok}
use Rattle.std.specs.List.{AllByRecursion}
use Rattle.std.proofs.lemmas.List.Elements.{recursion_from_All}
use Rattle.am_types.specs.declared.device.Device.{Device}
use Rattle.am_types.specs.declared.history.Entry.{Entry}
use Rattle.am_types.specs.declared.reply.Reply.TheVariants as replies
use Rattle.am_types.specs.declared.request.Request.{Request}
use Rattle.am_types.specs.declared.rule.Rule.TheVariants as rules
use Rattle.am_keeper.specs.declared.rows.Row.{Row}
use Rattle.am_keeper.specs.declared.rows.Rows.{Rows}
use Rattle.am_keeper.specs.Rows.{IsInOrder}
use Rattle.am_keeper.proofs.InOrder.{in_order-with_row}
use Rattle.am_model.specs.Sound.{IsSound}
use Rattle.am_history.specs.State.{State, opening}
use Rattle.am_history.specs.Desks.{state_or}
use Rattle.am_history.specs.Kept.{row_of}
use Rattle.am_history.specs.Opening.{opening_with}
use Rattle.am_history.specs.Steps.{act, after_due, asks_keeper, has_formed_row, step}
use Rattle.am_history.specs.History.{replay, replay_from}
use Rattle.am_laws_state.specs.Sound.{IsSoundState}
use Rattle.am_laws_state.proofs.Sound.{step_keeps_sound}
use Rattle.am_laws_state.proofs.SoundOpenings.{opening_is_sound}
use Rattle.am_laws_kept.specs.Found.{OpensAs, row_kept, rows_after, rows_after_from, with_kept}
use Rattle.am_laws_kept.proofs.KeptRequests.{act_is_found}

-- what is due changes nothing of the row that a request has kept
row_when_due : (state : State) (now : ℕ) (request : Request) → row_of (after_due state now) request
    ≡ row_of state request
row_when_due state now _ = refl

-- the row that an entry has kept leaves the rows in order
pub kept_in_order : (rows : Rows) (state : State) (before : List Entry) (entry : Entry) → IsInOrder rows
    → IsInOrder (with_kept rows (row_kept state before entry))
kept_in_order rows state before entry order = by (row_kept state before entry)
  where
    by : (row : Option Row) → IsInOrder (with_kept rows row)
    by None = order
    by (Some row) = in_order-with_row rows row order

-- with it the device opens as the state after the entry
pub entry_is_found : (device : Device) (rows : Rows) (state : State) (before : List Entry) (entry : Entry)
    → IsSound device → IsInOrder rows → IsSoundState state
    → IsTrue (has_formed_row entry.request) → OpensAs device rows state
    → OpensAs device (with_kept rows (row_kept state before entry)) (step state before entry).1
entry_is_found device rows state before entry sound order whole formed opens = by entry.kept
  where
    due : State
    due = after_due state entry.now

    opens_when_due : OpensAs device rows (after_due state entry.now)
    opens_when_due = record { found = opens.found; opens = opens.opens; same = opens.same }

    by : (kept : Bool) → OpensAs device (with_kept rows (cond (kept && asks_keeper (after_due state entry.now) before
        entry.uid entry.request) (row_of state entry.request) None))
        (cond kept (act (after_due state entry.now) before entry.uid entry.request)
        (replies.Refused rules.KeeperFault, after_due state entry.now)).1
    by true =
        subst (λ (row : Option Row). OpensAs device (with_kept rows
        (cond (asks_keeper due before entry.uid entry.request) row None))
        (act due before entry.uid entry.request).1)
        (row_when_due state entry.now entry.request)
        (act_is_found device rows due sound order whole opens_when_due entry.uid before entry.request formed)
    by false = opens_when_due

-- and so with the rows that entries have kept, one after the other
found_from : (device : Device) (state : State) (before : List Entry) (rows : Rows) (entries : List Entry)
    → IsSound device → IsInOrder rows → IsSoundState state
    → AllByRecursion (λ (entry : Entry). IsTrue (has_formed_row entry.request)) entries → OpensAs device rows state
    → OpensAs device (rows_after_from state before rows entries) (replay_from state before entries)
found_from device state before rows [] sound order whole formed opens = opens
found_from device state before rows (first ∷ others) sound order whole formed opens =
    found_from device (step state before first).1 (before ++ first ∷ []) (with_kept rows (row_kept state before first))
    others sound
    (kept_in_order rows state before first order) (step_keeps_sound state before first whole) formed.1
    (entry_is_found device rows state before first sound order whole formed.0 opens)

-- the state in which a sound device opens is sound
opens_sound : (device : Device) (rows : Rows) (start : State) → IsSound device → opening_with device rows ≡ Ok start
    → IsSoundState start
opens_sound device rows start sound opens =
    subst IsSoundState (ap (state_or (opening device)) opens) (opening_is_sound
    (record { device = device; rows = rows; place = None }) sound)

-- after every history of requests with formed rows what was done is found again
pub history_is_found : (device : Device) (rows : Rows) (start : State) (history : List Entry) → IsSound device
    → IsInOrder rows → opening_with device rows ≡ Ok start
    → All (λ (entry : Entry). IsTrue (has_formed_row entry.request)) history
    → OpensAs device (rows_after start rows history) (replay start history)
history_is_found device rows start history sound order opens formed =
    found_from device start [] rows history sound order (opens_sound device rows start sound opens)
    (recursion_from_All (λ (entry : Entry). IsTrue (has_formed_row entry.request)) history formed)
    (record { found = start; opens = opens; same = refl })

-- entries behind `before` and one more
follow_from : (state : State) (before : List Entry) (rows : Rows) (entries : List Entry) (entry : Entry)
    → rows_after_from state before rows (entries ++ entry ∷ [])
    ≡ with_kept (rows_after_from state before rows entries) (row_kept (replay_from state before entries)
    (before ++ entries) entry)
follow_from state before rows [] entry = ap (λ (h : List Entry). with_kept rows (row_kept state h entry))
    (sym (append-nil before))
follow_from state before rows (first ∷ others) entry =
    let next = (step state before first).1 in
    let with_first = with_kept rows (row_kept state before first) in
    follow_from next (before ++ first ∷ []) with_first others entry
    ∙ ap (λ (h : List Entry). with_kept (rows_after_from next (before ++ first ∷ []) with_first others)
    (row_kept (replay_from next (before ++ first ∷ []) others) h entry))
    (append_assoc before (first ∷ []) others)

-- one more entry puts the row that it has kept
pub rows_follow_history : (start : State) (rows : Rows) (history : List Entry) (entry : Entry)
    → rows_after start rows (history ++ entry ∷ []) ≡ with_kept (rows_after start rows history)
    (row_kept (replay start history) history entry)
rows_follow_history start rows history entry = follow_from start [] rows history entry
