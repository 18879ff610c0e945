-- What a call on packages changes once its row is kept: what is planned, how it is prepared, and what its result is.
use Rattle.std.specs.Prelude.{◌≡◌, ◌<◌, ℕ, ◌+◌, Bool, true, false, not, ◌&&◌, ◌==◌, List, [], ◌∷◌, ◌++◌, length, if◌then◌else◌, Some}
use Rattle.std.specs.List.{count_by}
use Rattle.am_types.specs.declared.device.Grant.{Grant}
use Rattle.am_types.specs.declared.device.Link.{Link}
use Rattle.am_types.specs.declared.device.Package.{Package}
use Rattle.am_types.specs.declared.history.Entry.{Entry}
use Rattle.am_types.specs.declared.reply.Reply.{Reply}
use Rattle.am_types.specs.declared.reply.Reply.TheVariants as replies
use Rattle.am_types.specs.declared.request.Request.{Request}
use Rattle.am_types.specs.declared.request.Request.TheVariants as asks
use Rattle.am_types.specs.declared.rule.Limit.{Limit}
use Rattle.am_types.specs.declared.rule.Limit.TheVariants as limits
use Rattle.am_types.specs.declared.rule.Rule.{Rule}
use Rattle.am_keeper.specs.declared.rows.Row.{Row}
use Rattle.am_keeper.specs.declared.rows.Row.TheVariants as rows
use Rattle.am_model.specs.Boards.{Board, is_granted, is_linked, is_package_uid, with_grant, with_link}
use Rattle.am_installed.specs.Installed.{AreInstalled}
use Rattle.am_history.specs.Answers.{done, refused}
use Rattle.am_history.specs.Kept.{row_of}
use Rattle.am_history.specs.Packages.{no_uid, without}
use Rattle.am_history.specs.State.{State, with_packages}
use Rattle.am_history.specs.Steps.{act, at_moment}
use Rattle.am_live_packages.specs.declared.change.Change.{Change}
use Rattle.am_live_packages.specs.declared.change.Change.TheVariants as changes
use Rattle.am_live_packages.specs.declared.change.Plan.{Plan}
use Rattle.am_live_packages.specs.declared.change.Plan.TheVariants as plans
use Rattle.am_live_packages.specs.declared.known.Known.{Known}
use Rattle.am_types.specs.declared.device.RightKind.{RightKind}
use Rattle.am_types.specs.declared.device.RightKind.TheVariants.{Permission, Host}

-- a state about which this is known
abbrev pub with_known : State → Known → State
with_known state known = record state {
  system_key = known.system_key.now;
  root_key = known.root_key.now;
  board = known.board.now;
  next_uid = known.next_uid;
}

-- the state with one more package, after the others
abbrev pub with_package : State → Package → State
with_package state «package» = with_packages state (state.board.packages ++ «package» ∷ [])

-- the uid has the right: it holds the permission, or is approved for the links of the host
abbrev pub is_held : Board → RightKind → ℕ → List ℕ → Bool
is_held board Permission uid text = is_granted board.grants uid text
is_held board Host uid text = is_linked board.links uid text

-- how many rights of the kind the uid has
abbrev pub count_held : Board → RightKind → ℕ → ℕ
count_held board Permission uid = count_by (λ (grant : Grant). grant.uid == uid) board.grants
count_held board Host uid = count_by (λ (link : Link). link.uid == uid) board.links

-- the board with the right held or not held
abbrev pub with_held : Board → RightKind → ℕ → List ℕ → Bool → Board
with_held board Permission uid text held = record board { grants = with_grant board.grants uid text held }
with_held board Host uid text held = record board { links = with_link board.links uid text held }

-- the state with the right held or not held
abbrev pub with_right : State → RightKind → ℕ → List ℕ → Bool → State
with_right state kind uid text held = record state { board = with_held state.board kind uid text held }

-- the request that gives the package of a name a right, or takes it
abbrev pub right_request : RightKind → List ℕ → List ℕ → Bool → Request
right_request Permission name text held = asks.Grant name text held
right_request Host name text held = asks.Link name text held

-- the row of a right that a uid is given, or that is taken
abbrev pub right_row : RightKind → ℕ → List ℕ → Bool → Row
right_row Permission uid text held = rows.Grant (record { uid = uid; permission = text; held = held })
right_row Host uid text held = rows.Link (record { uid = uid; host = text; approved = held })

-- the limit of how many rights of the kind a package may have
abbrev pub right_limit : RightKind → Limit
right_limit Permission = limits.Grants
right_limit Host = limits.Links

-- the answer to a change, and the state that it leaves
abbrev pub changed : Change → State → Reply × State
changed (changes.Install «package») state =
    (replies.Installed «package».uid, record (with_package state «package») { next_uid = state.next_uid + 1 })
changed (changes.Uninstall uid) state = done (without state uid)
changed (changes.Right right) state = done (with_right state right.kind right.uid right.text right.held)

-- the state with all that a change takes memory for: a new package or a new right is there already
abbrev pub prepared : Change → State → State
prepared (changes.Install «package») state = with_package state «package»
prepared (changes.Uninstall uid) state = state
prepared (changes.Right right) state =
    if right.is_new then with_right state right.kind right.uid right.text true else state

-- a package can be installed: there are fewer than 256, it has the next uid, which isn't the last one and no other
-- package's, and with it the packages are installed as they must be
pub record IsInstallable («package» : Package) (state : State) : Type 0 where
  pub room : length state.board.packages < 256
  pub uid : «package».uid ≡ state.next_uid
  pub follows : state.next_uid < no_uid
  pub new : is_package_uid state.board.packages «package».uid ≡ false
  pub installed : AreInstalled (state.board.packages ++ «package» ∷ [])

-- a change fits a state: a package can be installed, and a right is new if and only if it is given and wasn't held
abbrev pub Fits : Change → State → Type 0
Fits (changes.Install «package») state = IsInstallable «package» state
Fits (changes.Uninstall uid) state = Unit {0}
Fits (changes.Right right) state = right.is_new ≡ (right.held && not
    (is_held state.board right.kind right.uid right.text))

-- the state is one that a change fits, and for which it was prepared
pub record IsPrepared (change : Change) (state : State) : Type 0 where
  pub before : State
  pub fits : Fits change before
  pub same : state ≡ prepared change before

-- at each moment the request is refused by the rule
abbrev pub IsRefusedBy : Rule → State → ℕ → Request → Type 0
IsRefusedBy rule state caller request =
    (moment : ℕ) (before : List Entry) → act (at_moment state moment) before caller request
    ≡ refused (at_moment state moment) rule

-- at each moment the request makes the change, which fits the state, and the row is the one that it has kept
pub record IsAccepted (change : Change) (row : Row) (state : State) (caller : ℕ) (request : Request) : Type 0 where
  pub done : (moment : ℕ) (before : List Entry)
      → act (at_moment state moment) before caller request ≡ changed change (at_moment state moment)
  pub kept : row_of state request ≡ Some row
  pub fits : Fits change state

-- this is the plan for the request of a caller
abbrev pub IsPlanOf : Plan → State → ℕ → Request → Type 0
IsPlanOf (plans.Refused rule) state caller request = IsRefusedBy rule state caller request
IsPlanOf (plans.Accepted change row) state caller request = IsAccepted change row state caller request
