-- What a drill counts: the replies to the generated requests on the generated device.
use Rattle.std.specs.Prelude.{ℕ, ◌*◌, true, List, [], ◌∷◌, ◌++◌, length, map, if◌then◌else◌, Option, Some, None}
use Rattle.std.specs.List.{fold}
use Rattle.am_types.specs.declared.history.Entry.{Entry}
use Rattle.am_types.specs.declared.reply.Reply.{Reply}
use Rattle.am_history.specs.State.{State, opening, uid_of}
use Rattle.am_history.specs.Steps.{Call}
use Rattle.am_history.specs.History.{entry_of, is_stored, replay, reply_after}
use Rattle.am_wire_values.specs.Replies.{status_of}
use Rattle.am_drill.specs.declared.tally.Tally.{Tally}
use Rattle.am_drill.specs.Calls.{calls_of}
use Rattle.am_drill.specs.Devices.{device_of}
use Rattle.am_drill.specs.Draws.{after, seed}

-- the entry of a call, if some uid has its key. It counts as kept, as no keeper fails
abbrev pub entry_by : Call → Option ℕ → List Entry
entry_by call None = []
entry_by call (Some uid) = entry_of call uid true ∷ []

-- the history after a call: one more entry, if the call is stored
unfoldable pub history_after : State → List Entry → Call → List Entry
history_after start history call =
    if is_stored (replay start history) history call
    then history ++ entry_by call (uid_of (replay start history) call.key)
    else history

-- the reply to a call after a history
unfoldable pub answer : State → List Entry → Call → Reply
answer start history call = reply_after start history call true

-- the history after calls, one after the other
abbrev pub history_of : State → List Entry → List Call → List Entry
history_of start history calls = fold (history_after start) history calls

-- the replies to calls, one after the other
abbrev pub replies_of : State → List Entry → List Call → List Reply
replies_of start history [] = []
replies_of start history (call ∷ more) = answer start history call
    ∷ replies_of start (history_after start history call) more

-- the statuses of the replies
abbrev pub statuses_of : State → List Entry → List Call → List ℕ
statuses_of start history calls = map status_of (replies_of start history calls)

-- the tally of calls that are made one after the other, from an opening state on
abbrev pub tally_of : State → List Call → Tally
tally_of start calls = record {
  statuses = statuses_of start [] calls;
  history = length (history_of start [] calls);
}

-- the tally of the generated calls on the generated device; the draws of the calls follow those of the device
unfoldable pub drilled : ℕ → ℕ → ℕ → Tally
drilled from packages requests =
    tally_of (opening (device_of packages (seed from)))
    (calls_of packages requests (after (4 * packages) (seed from)))
