-- Who reached what: which entry of the history sent a broadcast, or started an activity or a service.
use Rattle.std.specs.Prelude.{◌≡◌, ℕ, true, false, not, ◌&&◌, List, ◌∷◌, ◌++◌, Option, Some, None, Result, Ok, Err, All}
use Rattle.std.specs.List.{Contains}
use Rattle.am_types.specs.declared.intent.Intent.{Intent}
use Rattle.am_types.specs.declared.intent.Component.{Component}
use Rattle.am_types.specs.declared.device.Package.{Package}
use Rattle.am_types.specs.declared.manifest.Decl.{Decl}
use Rattle.am_types.specs.declared.manifest.Kind.{Kind}
use Rattle.am_types.specs.declared.manifest.Kind.TheVariants as kinds
use Rattle.am_types.specs.declared.manifest.Manifest.{Manifest}
use Rattle.am_types.specs.declared.broadcast.Spot.{Spot}
use Rattle.am_types.specs.declared.broadcast.Ordered.{Ordered}
use Rattle.am_types.specs.declared.pending.Used.{Used}
use Rattle.am_types.specs.declared.pending.PendingFault.{PendingFault}
use Rattle.am_types.specs.declared.history.Entry.{Entry}
use Rattle.am_types.specs.declared.request.Request.{Request}
use Rattle.am_types.specs.declared.request.Request.TheVariants as asks
use Rattle.am_model.specs.Gates.{verdict, Admit, is_privileged}
use Rattle.am_model.specs.Receivers.{declared, receivers, admitted, is_protected}
use Rattle.am_model.specs.Broadcasts.{Broadcasts, Normal, Delivery, InTurn, Past}
use Rattle.am_model.specs.Tasks.{Instance, Task}
use Rattle.am_model.specs.Pendings.{use_token}
use Rattle.am_manifest.specs.Manifests.{manifest_of}
use Rattle.am_history.specs.State.{State, Service}
use Rattle.am_history.specs.Packages.{installed}
use Rattle.am_history.specs.PendingCalls.{in_new_task}
use Rattle.am_history.specs.Steps.{after_due}
use Rattle.am_history.specs.History.{replay}

-- what is done in the name of a uid: it starts an activity, it starts a service, or it broadcasts an intent, to those
-- receivers that hold a permission if one is required, in order or at once
pub data Deed : Type 0 where
  Starts : ℕ → Intent → Deed
  Serves : ℕ → Intent → Deed
  Sends : ℕ → Intent → Option (List ℕ) → Option Ordered → Deed

-- what the use of a token does in its creator's name
abbrev pub lent_deed : ℕ → Intent → Kind → Deed
lent_deed creator intent kinds.Activity = Starts creator (in_new_task intent)
lent_deed creator intent kinds.Service = Serves creator intent
lent_deed creator intent kinds.Receiver = Sends creator intent None None

-- what a token does that may be used
abbrev pub used_deed : Result Used PendingFault → Option Deed
used_deed (Ok used) = Some (lent_deed used.creator used.intent used.kind)
used_deed (Err fault) = None

-- what the request of a caller does in somebody's name; through a pending intent it is done in its creator's name
abbrev pub deed_of : State → ℕ → Request → Option Deed
deed_of state caller (asks.Start intent source) = Some (Starts caller intent)
deed_of state caller (asks.StartService intent) = Some (Serves caller intent)
deed_of state caller (asks.Send intent permission ordered) = Some (Sends caller intent permission ordered)
deed_of state caller (asks.PendingSend token fill) = used_deed (use_token state.pendings token caller fill)
deed_of state caller _ = None

-- an entry of the history did something for which this holds, in the state after what was due before it
pub record Once (opening : State) (history : List Entry) (P : State → Deed → Type 0) : Type 0 where
  pub before : List Entry
  pub at : Entry
  pub after : List Entry
  pub splits : history ≡ before ++ at ∷ after
  pub kept : at.kept ≡ true
  pub deed : Deed
  pub did : deed_of (after_due (replay opening before) at.now) at.uid at.request ≡ Some deed
  pub holds : P (after_due (replay opening before) at.now) deed

-- the uid broadcasts the intent, which has no action that is protected from it, and the receiver is admitted
pub record IsSentTo (sender : ℕ) (intent : Intent) (spot : Spot) (state : State) (deed : Deed) : Type 0 where
  pub permission : Option (List ℕ)
  pub ordered : Option Ordered
  pub is : deed ≡ Sends sender intent permission ordered
  pub unprotected : is_protected state.board.protected intent.action && not (is_privileged sender) ≡ false
  pub admitted : Contains (admitted (receivers state.board intent sender permission)) spot

-- the deed is that a uid asks by that intent for the component of a package, and the gate admits it
pub record IsLetIn (kind : Kind) (deed_by : ℕ → Intent → Deed) (component : Component) (owner : ℕ) (intent : Intent)
    (state : State) (deed : Deed) : Type 0 where
  pub caller : ℕ
  pub is : deed ≡ deed_by caller intent
  pub decl : Decl
  pub declared : declared state.board.packages kind component ≡ Some (owner, decl)
  pub admitted : verdict state.board.grants caller owner decl.exported decl.permission ≡ Admit

-- a uid starts the activity of a package by that intent, and the gate admits it
abbrev pub IsStarted : Component → ℕ → Intent → State → Deed → Type 0
IsStarted component owner intent state deed = IsLetIn kinds.Activity Starts component owner intent state deed

-- a uid starts the service of a package by that intent, and the gate admits it
abbrev pub IsServed : Component → ℕ → Intent → State → Deed → Type 0
IsServed component owner intent state deed = IsLetIn kinds.Service Serves component owner intent state deed

-- the entry, of the system or the root, installed the package from a manifest, with the next uid
pub record IsInstalledBy (state : State) (entry : Entry) (p : Package) : Type 0 where
  pub kept : entry.kept ≡ true
  pub admin : is_privileged entry.uid ≡ true
  pub text : List ℕ
  pub asked : entry.request ≡ asks.Install text p.key
  pub manifest : Manifest
  pub reads : manifest_of text ≡ Ok manifest
  pub is : p ≡ installed state manifest p.key

-- this holds for each receiver of an ordered broadcast, past or left
pub record OfTurn (B : ℕ → Intent → Spot → Type 0) (b : InTurn) : Type 0 where
  pub past : All (λ (p : Past). B b.sender b.intent p.spot) b.past
  pub rest : All (λ (spot : Spot). B b.sender b.intent spot) b.rest

-- this holds for each delivery of a normal broadcast
abbrev pub OfNormal : (ℕ → Intent → Spot → Type 0) → Normal → Type 0
OfNormal B n = All (λ (d : Delivery). B n.sender n.intent d.spot) n.deliveries

-- this holds for each receiver of each broadcast
pub record OfEach (B : ℕ → Intent → Spot → Type 0) (all : Broadcasts) : Type 0 where
  pub normal : All (OfNormal B) all.normal
  pub foreground : All (OfTurn B) all.foreground
  pub background : All (OfTurn B) all.background

-- each receiver that has or had a broadcast was sent it by the broadcast's sender, and was admitted
abbrev pub AreSentByEntries : State → List Entry → Broadcasts → Type 0
AreSentByEntries opening history all =
    OfEach (λ sender intent spot. Once opening history (IsSentTo sender intent spot)) all

-- the instance was made by a start of its component in the package that owns it, and given its intent by such a start
pub record IsStartedByEntries (opening : State) (history : List Entry) (i : Instance) : Type 0 where
  pub made : Once opening history (λ state deed. (intent : Intent) × IsStarted i.component i.owner intent state deed)
  pub given : Once opening history (IsStarted i.component i.owner i.intent)

-- the service was started first by a start of its component in the package that owns it, and last by such a start
pub record IsServedByEntries (opening : State) (history : List Entry) (s : Service) : Type 0 where
  pub made : Once opening history (λ state deed. (intent : Intent) × IsServed s.component s.owner intent state deed)
  pub given : Once opening history (IsServed s.component s.owner s.intent)

-- this holds for each instance of each task
abbrev pub OfInstances : (Instance → Type 0) → List Task → Type 0
OfInstances Q tasks = All (λ (task : Task). All Q task.instances) tasks
