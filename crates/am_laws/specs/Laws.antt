-- What holds in every state, and after every history.
use Rattle.std.specs.Prelude.{◌≢◌, ℕ, ◌+◌, ◌≤◌, List, [], ◌∷◌, ◌++◌, length}
use Rattle.am_types.specs.Bounds.{latest_moment}
use Rattle.am_types.specs.declared.history.Entry.{Entry}
use Rattle.am_types.specs.declared.request.Request.{Request}
use Rattle.am_types.specs.declared.reply.Reply.{Reply}
use Rattle.am_types.specs.declared.reply.Reply.TheVariants.{Refused}
use Rattle.am_types.specs.declared.rule.Rule.TheVariants.{KeeperFault}
use Rattle.am_history.specs.State.{State}
use Rattle.am_history.specs.Steps.{act, step}
use Rattle.am_history.specs.Desks.{Origin, opening_of}
use Rattle.am_history.specs.History.{replay}
use Rattle.am_history.specs.Numbers.{HasNumbersTo, HasNumbers}

-- the state of a manager with that origin after a history
abbrev pub state_after : Origin → List Entry → State
state_after origin history = replay (opening_of origin) history

-- the answer to an entry after a history, and the state after it
abbrev pub answer_after : Origin → List Entry → Entry → Reply × State
answer_after origin history entry =
    ((step (state_after origin history) history entry).0, state_after origin (history ++ entry ∷ []))

-- the next numbers of tasks, instances, broadcasts, tokens and registrations, and the starts of each running service,
-- are at most one more than the number of entries
abbrev pub NumbersFollow : Type 0
NumbersFollow =
    (origin : Origin) (history : List Entry) → HasNumbersTo (1 + length history) (state_after origin history)

-- every installation takes one uid: the next one is at most the first next one and the number of entries, and it is
-- never a smaller one
abbrev pub UidsFollow : Type 0
UidsFollow =
    (origin : Origin) (history : List Entry)
    → ((opening_of origin).next_uid ≤ (state_after origin history).next_uid)
    × ((state_after origin history).next_uid ≤ (opening_of origin).next_uid + length history)

-- a history of at most 2^20 entries leaves numbers for a call
abbrev pub NumbersSuffice : Type 0
NumbersSuffice =
    (origin : Origin) (history : List Entry) → length history ≤ 1048576 → HasNumbers (state_after origin history)

-- the last moment is at most 2^62
abbrev pub MomentsFit : Type 0
MomentsFit = (origin : Origin) (history : List Entry) → (state_after origin history).moment ≤ latest_moment

-- an entry never moves the last moment back
abbrev pub MomentsRise : Type 0
MomentsRise =
    (origin : Origin) (history : List Entry) (next : Entry)
    → (state_after origin history).moment ≤ (state_after origin (history ++ next ∷ [])).moment

-- no request itself gives the answer that its row couldn't be kept
abbrev pub NoRequestFaults : Type 0
NoRequestFaults =
    (state : State) (before : List Entry) (caller : ℕ) (request : Request)
    → (act state before caller request).0 ≢ Refused KeeperFault
