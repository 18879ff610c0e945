-- What a refusal leaves: the state as it was.
use Rattle.std.specs.Prelude.{◌≡◌, ℕ, true, List, if◌then◌else◌, Result, Ok, Err}
use Rattle.am_types.specs.declared.pending.Used.{Used}
use Rattle.am_types.specs.declared.pending.PendingFault.{PendingFault}
use Rattle.am_types.specs.declared.history.Entry.{Entry}
use Rattle.am_types.specs.declared.request.Request.{Request}
use Rattle.am_types.specs.declared.request.Request.TheVariants as asks
use Rattle.am_model.specs.Pendings.{use_token, without_token}
use Rattle.am_history.specs.State.{State}
use Rattle.am_history.specs.Steps.{after_due, is_refusal}
use Rattle.am_history.specs.Desks.{Origin}
use Rattle.am_laws.specs.Laws.{state_after, answer_after}

-- the state without the record of that token
abbrev pub without_record : State → ℕ → State
without_record state token =
    record state { pendings = record (state.pendings) { records = without_token state.pendings.records token } }

-- the state after the use of that token was refused by what it stands for: a one-shot one that could be used is gone
abbrev pub after_use_refused : State → ℕ → Result Used PendingFault → State
after_use_refused state token (Err fault) = state
after_use_refused state token (Ok used) = if used.one_shot then without_record state token else state

-- the state after a request was refused: it is as it was, without the one-shot pending intent that was used
abbrev pub after_refused : State → ℕ → Request → State
after_refused state caller (asks.PendingSend token fill) =
    after_use_refused state token (use_token state.pendings token caller fill)
after_refused state caller _ = state

-- the state after an entry was refused; one whose row wasn't kept did nothing
abbrev pub after_refused_entry : State → Entry → State
after_refused_entry state entry = if entry.kept then after_refused state entry.uid entry.request else state

-- an entry that is refused leaves the state as it was at its moment, when what was due was handled, except for a
-- one-shot
-- pending intent that it used
abbrev pub RefusalsChangeNothing : Type 0
RefusalsChangeNothing =
    (origin : Origin) (history : List Entry) (entry : Entry)
    → is_refusal (answer_after origin history entry).0 ≡ true
    → (answer_after origin history entry).1 ≡ after_refused_entry (after_due (state_after origin history) entry.now)
    entry
