-- What the manager knows at a moment.
use Rattle.std.specs.Prelude.{ℕ, ◌+◌, Bool, ◌&&◌, ◌||◌, ◌==◌, List, [], ◌∷◌, map, max, Option, Some, None, is_some, if◌then◌else◌}
use Rattle.std.specs.List.{fold}
use Rattle.am_types.specs.declared.device.Device.{Device}
use Rattle.am_types.specs.declared.device.Package.{Package}
use Rattle.am_types.specs.declared.intent.Intent.{Intent}
use Rattle.am_types.specs.declared.intent.Component.{Component}
use Rattle.am_model.specs.Texts.{is_same}
use Rattle.am_model.specs.Boards.{Board, board_of, is_package_uid}
use Rattle.am_model.specs.Broadcasts.{Broadcasts, no_broadcasts}
use Rattle.am_model.specs.Pendings.{Pendings, no_pendings}
use Rattle.am_model.specs.Tasks.{Tasks, no_tasks}

-- a running service: its component, the uid of its package, the intent of its last start, and how often it was started
pub record Service : Type 0 where
  pub component : Component
  pub owner : ℕ
  pub intent : Intent
  pub starts : ℕ

-- the keys of the system and of the root, the board, all that is in course, the running services in the order of
-- their first start, the next uid and the next registration, and the last moment in milliseconds
pub record State : Type 0 where
  pub system_key : List ℕ
  pub root_key : Option (List ℕ)
  pub board : Board
  pub broadcasts : Broadcasts
  pub pendings : Pendings
  pub tasks : Tasks
  pub services : List Service
  pub next_uid : ℕ
  pub next_registration : ℕ
  pub moment : ℕ

-- one more than the greatest of 9999 and these uids
abbrev pub uid_after : List ℕ → ℕ
uid_after uids = fold max 9999 uids + 1

-- the uids of packages
abbrev pub uids_of : List Package → List ℕ
uids_of packages = map (λ (p : Package). p.uid) packages

-- the state of a device before the first call
abbrev pub opening : Device → State
opening device = record {
  system_key = device.system_key;
  root_key = device.root_key;
  board = board_of device;
  broadcasts = no_broadcasts;
  pendings = no_pendings;
  tasks = no_tasks;
  services = [];
  next_uid = uid_after (uids_of device.packages);
  next_registration = 1;
  moment = 0;
}

-- the uid of the system
abbrev pub system_uid : ℕ
system_uid = 1000

-- the uid of the root
abbrev pub root_uid : ℕ
root_uid = 0

-- the uid of the package with that key, if there is one
abbrev pub uid_of_package : List Package → List ℕ → Option ℕ
uid_of_package [] key = None
uid_of_package (first ∷ others) key = if is_same first.key key then Some first.uid else uid_of_package others key

-- the root's uid if this is its key, else what others say
abbrev pub root_or : Option (List ℕ) → List ℕ → Option ℕ → Option ℕ
root_or None key others = others
root_or (Some root_key) key others = if is_same root_key key then Some root_uid else others

-- the key of the package with that uid, if there is one
abbrev pub key_of_package : List Package → ℕ → Option (List ℕ)
key_of_package [] uid = None
key_of_package (first ∷ others) uid = if first.uid == uid then Some first.key else key_of_package others uid

-- the uid that has the key, if there is one
abbrev pub uid_of : State → List ℕ → Option ℕ
uid_of state key =
    if is_same state.system_key key then Some system_uid else root_or state.root_key key
    (uid_of_package state.board.packages key)

-- the key of the caller with the uid, if there is one
abbrev pub key_of : State → ℕ → Option (List ℕ)
key_of state uid =
    if uid == system_uid then Some state.system_key else if uid == root_uid then state.root_key
    else key_of_package state.board.packages uid

-- some caller of the state has the uid
abbrev pub has_uid : State → ℕ → Bool
has_uid state uid = uid == system_uid || (uid == root_uid && is_some state.root_key) || is_package_uid
    state.board.packages uid

-- the state with other packages
abbrev pub with_packages : State → List Package → State
with_packages state packages = record state { board = record (state.board) { packages = packages } }
