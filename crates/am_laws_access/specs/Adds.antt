-- What one entry adds to a state, and that it is a deed of this entry.
use Rattle.std.specs.Prelude.{◌≡◌, ℕ, ◌+◌, Bool, true, false, not, ◌&&◌, List, [], ◌∷◌, Option, Some, None, ◌⊎◌}
use Rattle.std.specs.List.{Contains, find}
use Rattle.am_types.specs.declared.device.Package.{Package}
use Rattle.am_types.specs.declared.request.Request.TheVariants as asks
use Rattle.am_types.specs.declared.resolve.Registration.{Registration}
use Rattle.am_types.specs.declared.intent.Intent.{Intent}
use Rattle.am_types.specs.declared.broadcast.Spot.{Spot}
use Rattle.am_types.specs.declared.task.Landed.{Landed}
use Rattle.am_types.specs.declared.task.Placed.{Placed}
use Rattle.am_types.specs.declared.task.Placed.TheVariants as how
use Rattle.am_types.specs.declared.history.Entry.{Entry}
use Rattle.am_types.specs.declared.reply.Reply.{Reply}
use Rattle.am_types.specs.declared.reply.Reply.TheVariants as replies
use Rattle.am_model.specs.Gates.{is_privileged}
use Rattle.am_model.specs.Receivers.{receivers, admitted, is_protected}
use Rattle.am_model.specs.Broadcasts.{Normal, Delivery}
use Rattle.am_model.specs.Pendings.{Asked, Pending, Pendings, fresh, has_key}
use Rattle.am_model.specs.Tasks.{Instance, Task}
use Rattle.am_model.specs.Placement.{root_of}
use Rattle.am_history.specs.State.{State, Service}
use Rattle.am_history.specs.Services.{running}
use Rattle.am_history.specs.Steps.{after_due}
use Rattle.am_laws.specs.Access.{Deed, Sends, IsInstalledBy, IsStarted, IsServed}
use Rattle.am_laws_access.specs.Intents.{IsAmong, HasDone, IsGivenBy}

-- what may be added to a state: a delivery of the normal broadcast of that number, sender and intent; an activity
-- instance with the intent that it has; a running service, started as often as it says; a registered receiver; a
-- token's record, whoever else holds the token; or a package, stopped or not
pub data Addition : Type 0 where
  ADelivery : ℕ → ℕ → Intent → Delivery → Addition
  AnInstance : Instance → Addition
  AService : Service → Addition
  AReceiver : Registration → Addition
  AToken : Pending → Addition
  APackage : Package → Addition

-- the delivery is one of the normal broadcast of that number, sender and intent
pub record IsDeliveryOf (normal : List Normal) (number sender : ℕ) (intent : Intent) (d : Delivery) : Type 0 where
  pub broadcast : Normal
  pub one : Contains normal broadcast
  pub numbered : broadcast.number ≡ number
  pub sent_by : broadcast.sender ≡ sender
  pub carries : broadcast.intent ≡ intent
  pub delivery : Contains broadcast.deliveries d

-- it is in the state
abbrev pub Has : State → Addition → Type 0
Has state (ADelivery number sender intent d) = IsDeliveryOf state.broadcasts.normal number sender intent d
Has state (AnInstance i) = IsAmong state.tasks.tasks i
Has state (AService s) = Contains state.services s
Has state (AReceiver r) = Contains state.board.registered r
Has state (AToken kept) = (holders : List ℕ) × Contains state.pendings.records (record kept { holders = holders })
Has state (APackage p) = (stopped : Bool) × Contains state.board.packages (record p { stopped = stopped })

-- the uid broadcasts the intent to all at once, the intent has no action that is protected from the uid, and the
-- receiver is admitted
pub record IsSentAtOnce (sender : ℕ) (intent : Intent) (spot : Spot) (state : State) (deed : Deed) : Type 0 where
  pub permission : Option (List ℕ)
  pub is : deed ≡ Sends sender intent permission None
  pub unprotected : is_protected state.board.protected intent.action && not (is_privileged sender) ≡ false
  pub admitted : Contains (admitted (receivers state.board intent sender permission)) spot

-- the service was started once more than it says in this state, or for the first time if it doesn't run
abbrev pub IsOneMore : State → Service → Type 0
IsOneMore state s =
    ((was : Service) × Contains state.services was × (was.component ≡ s.component) × (s.starts ≡ was.starts + 1))
    ⊎ ((running state.services s.component ≡ None) × (s.starts ≡ 1))

-- the entry registered the receiver, as its own and with the number that is given next
pub record IsRegisteredBy (state : State) (entry : Entry) (r : Registration) : Type 0 where
  pub kept : entry.kept ≡ true
  pub asked : entry.request ≡ asks.Register r.filter r.permission
  pub own : r.uid ≡ entry.uid
  pub number : r.number ≡ state.next_registration

-- it is the record of the token that has the key that is asked for, with the extras that are asked for
pub record IsUpdated (all : Pendings) (asked : Asked) (kept : Pending) : Type 0 where
  pub found : Pending
  pub is : find (has_key asked) all.records ≡ Some found
  pub was : Pending
  pub one : Contains all.records was
  pub token : was.token ≡ found.token
  pub updated : kept ≡ record was { intent = record (was.intent) { extras = asked.intent.extras }; holders = [] }

-- the entry asked for the token for itself: the record is a fresh one, or it was updated
pub record IsAskedBy (state : State) (entry : Entry) (kept : Pending) : Type 0 where
  pub stored : entry.kept ≡ true
  pub asked : Asked
  pub request : entry.request ≡ asks.PendingGet asked.kind asked.code asked.intent asked.flags
  pub own : asked.creator ≡ entry.uid
  pub made : (kept ≡ fresh state.pendings.next asked) ⊎ IsUpdated state.pendings asked kept

-- the entry added it in this state, in which its deed was admitted: it sent the broadcast, which has the number that
-- is given next; it started the activity with that intent; it started the service with that intent, once more; it
-- registered the receiver; it asked for the token; or it installed the package
abbrev pub IsAddedBy : State → Entry → Addition → Type 0
IsAddedBy state entry (ADelivery number sender intent d) =
    HasDone state entry (IsSentAtOnce sender intent d.spot) × (number ≡ state.broadcasts.next_broadcast)
IsAddedBy state entry (AnInstance i) = IsGivenBy state entry i
IsAddedBy state entry (AService s) = HasDone state entry (IsServed s.component s.owner s.intent) × IsOneMore state s
IsAddedBy state entry (AReceiver r) = IsRegisteredBy state entry r
IsAddedBy state entry (AToken kept) = IsAskedBy state entry (record kept { holders = [] })
IsAddedBy state entry (APackage p) = IsInstalledBy state entry (record p { stopped = true })

-- what a start did to the front task, in which it landed: it only brought it to the front, and the entry started the
-- component of its root; or its instance of that number was given its intent, which may be the one that it had
abbrev pub IsReachedBy : State → Entry → Task → ℕ → Placed → Type 0
IsReachedBy state entry front number how.Fronted =
    (root : Instance) × (root_of front.instances ≡ Some root)
    × HasDone state entry (λ state deed. (intent : Intent) × IsStarted root.component root.owner intent state deed)
IsReachedBy state entry front number _ =
    (i : Instance) × Contains front.instances i × (i.number ≡ number) × IsGivenBy state entry i

-- an entry that gets this answer in this state, and leaves that state, landed there by a start that the gate admitted
pub record IsLanding (state : State) (entry : Entry) (after : State) (landed : Landed) : Type 0 where
  pub front : Task
  pub behind : List Task
  pub tasks : after.tasks.tasks ≡ front ∷ behind
  pub task : front.number ≡ landed.task
  pub reached : IsReachedBy state entry front landed.instance landed.how

-- an entry with its answer and the state after it adds to a state only what its own deed adds at its moment: what was
-- due before it adds nothing, and if it says that a start landed, it was this entry's start
pub record Adds (before : State) (entry : Entry) (answer : Reply × State) : Type 0 where
  pub due : (a : Addition) → Has (after_due before entry.now) a → Has before a
  pub own : (a : Addition) → Has answer.1 a
      → Has (after_due before entry.now) a ⊎ IsAddedBy (after_due before entry.now) entry a
  pub landing : (landed : Landed) → answer.0 ≡ replies.Placed landed
      → IsLanding (after_due before entry.now) entry answer.1 landed
