-- The history of the stored calls, and the reply to a call at a place of it.
use Rattle.std.specs.Prelude.{◌≡◌, ℕ, ◌+◌, Bool, ◌&&◌, ◌||◌, nat_lt, nat_le, List, [], ◌∷◌, ◌++◌, length, Option, Some, None, is_some, if◌then◌else◌, sum_by, IsTrue, filter, ◌==◌}
use Rattle.am_types.specs.declared.history.Entry.{Entry}
use Rattle.am_types.specs.declared.request.Request.{Request}
use Rattle.am_types.specs.declared.reply.Reply.{Reply}
use Rattle.am_types.specs.declared.reply.Reply.TheVariants.{Refused}
use Rattle.am_types.specs.declared.rule.Rule.TheVariants.{UnknownKey, HistoryFull}
use Rattle.am_history.specs.State.{State, uid_of, has_uid}
use Rattle.am_history.specs.Steps.{Call, act, after_due, due, is_changing, asks_keeper, step}

-- the state after these entries, if the entries `before` came first
abbrev pub replay_from : State → List Entry → List Entry → State
replay_from state before [] = state
replay_from state before (first ∷ others) = replay_from (step state before first).1 (before ++ first ∷ []) others

-- the state after the entries of a history, one after the other
abbrev pub replay : State → List Entry → State
replay state history = replay_from state [] history

-- what the bodies of the stored requests weigh together
abbrev pub weight_of : List Entry → ℕ
weight_of history = sum_by (λ (entry : Entry). entry.weight) history

-- the history has room for one more entry of that weight
abbrev pub has_room : List Entry → ℕ → Bool
has_room history weight = nat_lt (length history) 1048576 && nat_le (weight_of history + weight) 536870912

-- a call at that moment may change the state, by its request or by what is due
abbrev pub may_change : State → ℕ → Request → Bool
may_change state now request = is_changing request || due state now

-- the call is stored after that history: its key is known, it may change the state, and there is room
abbrev pub is_stored : State → List Entry → Call → Bool
is_stored state history call =
    is_some (uid_of state call.key) && may_change state call.now call.request && has_room history call.weight

-- the entry that a call of that uid becomes; `kept` is false if its row couldn't be kept
abbrev pub entry_of : Call → ℕ → Bool → Entry
entry_of call uid kept =
    record { desk = call.desk; uid = uid; now = call.now; weight = call.weight; request = call.request; kept = kept }

-- the reply to a known caller
abbrev pub reply_to : State → List Entry → Call → Bool → Option ℕ → Reply
reply_to state history call kept None = Refused UnknownKey
reply_to state history call kept (Some uid) =
    if may_change state call.now call.request
    then (if has_room history call.weight then (step state history (entry_of call uid kept)).0 else Refused HistoryFull)
    else (act state history uid call.request).0

-- the reply to a call after a history that begins at the opening state; `kept` is false if the call is
-- stored and its row couldn't be kept
abbrev pub reply_after : State → List Entry → Call → Bool → Reply
reply_after opening history call kept =
    let state = replay opening history in reply_to state history call kept (uid_of state call.key)

-- the entry is that call, kept or not
pub record IsEntryOf (state : State) (call : Call) (is_kept : Bool) (entry : Entry) : Type 0 where
  pub desk : entry.desk ≡ call.desk
  pub uid : uid_of state call.key ≡ Some entry.uid
  pub now : entry.now ≡ call.now
  pub weight : entry.weight ≡ call.weight
  pub request : entry.request ≡ call.request
  pub kept : entry.kept ≡ is_kept

-- the entries that carry a desk's number
abbrev pub entries_of : ℕ → List Entry → List Entry
entries_of desk history = filter (λ (entry : Entry). entry.desk == desk) history

-- an entry would be stored in that state after the history `before`: its uid is a caller's, it may change the
-- state, there is room for it, and it was kept unless it asked the keeper
pub record MayBeNext (state : State) (before : List Entry) (entry : Entry) : Type 0 where
  pub caller : IsTrue (has_uid state entry.uid)
  pub changes : IsTrue (may_change state entry.now entry.request)
  pub room : IsTrue (has_room before entry.weight)
  pub kept : IsTrue (entry.kept || asks_keeper (after_due state entry.now) before entry.uid entry.request)

-- each of these entries would be stored at its place after the entries `before`
abbrev pub IsLegalFrom : State → List Entry → List Entry → Type 0
IsLegalFrom opening before [] = Unit {0}
IsLegalFrom opening before (first ∷ others) =
    MayBeNext (replay opening before) before first × IsLegalFrom opening (before ++ first ∷ []) others

-- the history could have been made from the opening state
abbrev pub IsLegal : State → List Entry → Type 0
IsLegal opening history = IsLegalFrom opening [] history

-- the later history begins with the earlier one
abbrev pub Extends : List Entry → List Entry → Type 0
Extends earlier later = (added : List Entry) × (later ≡ earlier ++ added)
