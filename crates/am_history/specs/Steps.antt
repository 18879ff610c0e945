-- What one call does to the state, and its answer.
use Rattle.std.specs.Prelude.{ℕ, ◌+◌, Bool, true, false, List, length, max, min, nat_le, drop, take, is_none, if◌then◌else◌}
use Rattle.am_types.specs.Bounds.{latest_moment}
use Rattle.am_types.specs.declared.broadcast.Answer.{Answer}
use Rattle.am_types.specs.declared.history.Entry.{Entry}
use Rattle.am_types.specs.declared.request.Request.{Request}
use Rattle.am_types.specs.declared.request.Request.TheVariants as asks
use Rattle.am_types.specs.declared.reply.Reply.{Reply}
use Rattle.am_types.specs.declared.reply.Reply.TheVariants as replies
use Rattle.am_types.specs.declared.rule.Rule.TheVariants.{KeeperFault, OverLimit}
use Rattle.am_types.specs.declared.rule.Limit.TheVariants as limits
use Rattle.am_model.specs.Texts.{is_same, lowered}
use Rattle.am_model.specs.Sound.{is_access_key}
use Rattle.am_model.specs.Starts.{query_hits}
use Rattle.am_model.specs.Tasks.{views}
use Rattle.am_model.specs.Broadcasts as broadcasts
use Rattle.am_model.specs.Sending.{inbox}
use Rattle.am_history.specs.State.{State}
use Rattle.am_history.specs.Answers.{for_admin, refused, done}
use Rattle.am_history.specs.Activities.{components_of, start, finish_activity, back}
use Rattle.am_history.specs.Services.{start_service, stop_service, services_of}
use Rattle.am_history.specs.BroadcastCalls.{send, register, unregister, finish}
use Rattle.am_history.specs.PendingCalls.{pending_get, pending_send, pending_cancel, pending_give}
use Rattle.am_history.specs.Packages.{install, uninstall, grant, link, force_stop}
use Rattle.am_history.specs.Explaining.{explain}

-- a call on a desk: the desk's number, the caller's key, the moment in milliseconds, the length of the
-- request's body, and the request
pub record Call : Type 0 where
  pub desk : ℕ
  pub key : List ℕ
  pub now : ℕ
  pub weight : ℕ
  pub request : Request

-- the moment of a call: never before the last one, and 2^62 at most
abbrev pub moment_after : State → ℕ → ℕ
moment_after state now = max state.moment (min now latest_moment)

-- some deadline is at the moment of a call or before it
abbrev pub due : State → ℕ → Bool
due state now = broadcasts.due state.broadcasts (moment_after state now)

-- the state at a moment, with the deadlines that are due then handled
abbrev pub at_moment : State → ℕ → State
at_moment state moment =
    record state { broadcasts = broadcasts.expired state.broadcasts moment; moment = moment }

-- the state at the moment of a call
abbrev pub after_due : State → ℕ → State
after_due state now = at_moment state (moment_after state now)

-- the answer to a move of the moment, in the state that it leaves: the earliest deadline that is left, and the moment
abbrev pub advanced : State → Reply × State
advanced state = (replies.Advanced (broadcasts.earliest_deadline state.broadcasts) state.moment, state)

-- the moment moves so many milliseconds ahead, to 2^62 at most, and the deadlines that are due then are handled
unfoldable pub advance : State → ℕ → Reply × State
advance state by =
    if nat_le (state.moment + by) latest_moment
    then advanced (at_moment state (state.moment + by))
    else refused state (OverLimit limits.Moment)

-- at most 64 of the entries, from a number on
abbrev pub page : List Entry → ℕ → List Entry
page before from = take 64 (drop from before)

-- what the request of the caller with that uid comes to after the entries `before`: the answer, and the state that it
-- leaves
abbrev pub comes_to : State → List Entry → ℕ → Request → Reply × State
comes_to state before caller (asks.Query kind intent default_only) =
    (replies.Components (components_of (query_hits state.board kind intent default_only)), state)
comes_to state before caller (asks.Explain kind intent name permission shown) = (
  explain state.board (record { caller = caller; kind = kind; intent = intent; required = permission }) name shown,
  state,
)
comes_to state before caller (asks.Start intent source) = start state caller intent source
comes_to state before caller (asks.FinishActivity instance) = finish_activity state caller instance
comes_to state before caller asks.Back = for_admin state caller (back state)
comes_to state before caller asks.ListTasks = (replies.Tasks (views state.tasks caller), state)
comes_to state before caller (asks.StartService intent) = start_service state caller intent
comes_to state before caller (asks.StopService component) = stop_service state caller component
comes_to state before caller asks.Services = (replies.Services (services_of state.services caller), state)
comes_to state before caller (asks.Send intent permission ordered) = send state caller intent permission ordered
comes_to state before caller (asks.Register filter permission) = register state caller filter permission
comes_to state before caller (asks.Unregister number) = unregister state caller number
comes_to state before caller asks.Inbox = (replies.Items (inbox state.broadcasts caller), state)
comes_to state before caller (asks.Finish delivery answer) = finish state caller delivery answer
comes_to state before caller (asks.PendingGet kind code intent flags) = pending_get state caller kind code intent flags
comes_to state before caller (asks.PendingSend token fill) = pending_send state caller token fill
comes_to state before caller (asks.PendingCancel token) = pending_cancel state caller token
comes_to state before caller (asks.PendingGive token name) = pending_give state caller token name
comes_to state before caller (asks.Install text key) = install state caller text key
comes_to state before caller (asks.Uninstall name) = uninstall state caller name
comes_to state before caller (asks.Grant name permission held) = grant state caller name permission held
comes_to state before caller (asks.Link name host approved) = link state caller name host approved
comes_to state before caller (asks.ForceStop name) = force_stop state caller name
comes_to state before caller asks.Tick = for_admin state caller (done state)
comes_to state before caller (asks.Advance by) = for_admin state caller (advance state by)
comes_to state before caller (asks.History from) = for_admin state caller
    (replies.Entries from (page before from), state)
comes_to state before caller asks.Status =
    for_admin state caller (replies.Status (length before) state.moment (length state.board.packages), state)

-- the same, for proofs to open only where they need it
unfoldable pub act : State → List Entry → ℕ → Request → Reply × State
act state before caller request = comes_to state before caller request

-- what a request may do: only read, change the state, or change it and have a row kept
pub data Class : Type 0 where
  Reads : Class
  Changes : Class
  Keeps : Class

-- what the request may do
abbrev pub class_of : Request → Class
class_of (asks.Query kind intent default_only) = Reads
class_of (asks.Explain kind intent name permission shown) = Reads
class_of asks.ListTasks = Reads
class_of asks.Services = Reads
class_of asks.Inbox = Reads
class_of (asks.History from) = Reads
class_of asks.Status = Reads
class_of (asks.Install text key) = Keeps
class_of (asks.Uninstall name) = Keeps
class_of (asks.Grant name permission held) = Keeps
class_of (asks.Link name host approved) = Keeps
class_of _ = Changes

-- a call of that class may change the state
abbrev pub may_change_by : Class → Bool
may_change_by Reads = false
may_change_by Changes = true
may_change_by Keeps = true

-- a call of that class has a row kept
abbrev pub has_row : Class → Bool
has_row Keeps = true
has_row Reads = false
has_row Changes = false

-- the request may change the state
abbrev pub is_changing : Request → Bool
is_changing request = may_change_by (class_of request)

-- the request has a row kept
abbrev pub keeps_row : Request → Bool
keeps_row request = has_row (class_of request)

-- the reply refuses
abbrev pub is_refusal : Reply → Bool
is_refusal (replies.Refused rule) = true
is_refusal _ = false

-- the keeper is asked: the request has a row kept, and nothing else refuses it
abbrev pub asks_keeper : State → List Entry → ℕ → Request → Bool
asks_keeper state before caller request =
    if keeps_row request then (if is_refusal (act state before caller request).0 then false else true) else false

-- the row that the request has kept, if any, has the form of a kept row: an installation has an access key, and a link a
-- host in lower case. Not every such request is one that a body is read as
abbrev pub has_formed_row : Request → Bool
has_formed_row (asks.Install text key) = is_access_key key
has_formed_row (asks.Link name host approved) = is_same (lowered host) host
has_formed_row _ = true

-- the answer to the request depends neither on broadcasts nor on the moment, and it changes nothing
abbrev pub is_steady : Request → Bool
is_steady (asks.Query kind intent default_only) = true
is_steady (asks.Explain kind intent name permission shown) = true
is_steady asks.ListTasks = true
is_steady asks.Services = true
is_steady (asks.History from) = true
is_steady _ = false

-- the answer to a delivery sets no outcome
abbrev pub sets_nothing : Answer → Bool
sets_nothing answer = is_none answer.set

-- with room for its entry the request takes no memory that can be refused
abbrev pub is_calm : Request → Bool
is_calm asks.Tick = true
is_calm (asks.Advance by) = true
is_calm asks.Back = true
is_calm (asks.FinishActivity instance) = true
is_calm (asks.Finish delivery answer) = sets_nothing answer
is_calm (asks.PendingCancel token) = true
is_calm _ = false

-- the answer to an entry after the entries `before`, and the state that it leaves: what is due comes first,
-- and a request whose row wasn't kept does nothing more
abbrev pub step : State → List Entry → Entry → Reply × State
step state before entry =
    if entry.kept
    then act (after_due state entry.now) before entry.uid entry.request
    else (replies.Refused KeeperFault, after_due state entry.now)
