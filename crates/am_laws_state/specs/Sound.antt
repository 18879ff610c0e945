-- What holds in every state for what is installed, for what was given to it, and for the registered receivers.
use Rattle.std.specs.Prelude.{ℕ, ◌<◌, ◌≤◌, codes, List, ◌∷◌, ◌++◌, length, All, IsTrue}
use Rattle.std.specs.List.Sorted.{IsStrictlyIncreasing}
use Rattle.am_types.specs.declared.device.Package.{Package}
use Rattle.am_types.specs.declared.resolve.Registration.{Registration}
use Rattle.am_model.specs.Boards.{Board}
use Rattle.am_model.specs.Sound.{AreDistinct, AreSoundRights, IsSoundDecl, classes_of, is_package_name, keys_of, names_of, owner_keys, rights_approved, rights_granted, uids_of}
use Rattle.am_installed.specs.Places.{AreByNumber}
use Rattle.am_history.specs.State.{State}

-- a package has an app's uid, a name of the right form, and at most 256 components of distinct classes
pub record IsSoundApp (p : Package) : Type 0 where
  pub lowest : 10000 ≤ p.uid
  pub name : IsTrue (is_package_name p.name)
  pub few : length p.decls ≤ 256
  pub classes : AreDistinct (classes_of p.decls)
  pub decls : All IsSoundDecl p.decls

-- at most 256 packages in rising order of their uids, which are below the next one, an app's; they have distinct names,
-- none of them the system's, and distinct keys, none of them an owner's
pub record AreSoundApps (owners : List (List ℕ)) (packages : List Package) (next_uid : ℕ) : Type 0 where
  pub few : length packages ≤ 256
  pub each : All IsSoundApp packages
  pub rising : IsStrictlyIncreasing (uids_of packages)
  pub below : All (λ (p : Package). p.uid < next_uid) packages
  pub next : 10000 ≤ next_uid
  pub names : AreDistinct (codes "android" ∷ names_of packages)
  pub keys : AreDistinct (owners ++ keys_of packages)

-- registered receivers are in rising order of their numbers, which were all given out
pub record AreSoundReceivers (registered : List Registration) (next : ℕ) : Type 0 where
  pub order : AreByNumber registered
  pub below : All (λ (r : Registration). r.number < next) registered

-- what is installed is sound; grants and links are in order, each once, of installed packages, at most 256 of each
-- package; registered receivers are sound
pub record IsSoundBoard (owners : List (List ℕ)) (board : Board) (next_uid next_registration : ℕ) : Type 0 where
  pub packages : AreSoundApps owners board.packages next_uid
  pub grants : AreSoundRights board.packages (rights_granted board.grants)
  pub links : AreSoundRights board.packages (rights_approved board.links)
  pub registered : AreSoundReceivers board.registered next_registration

-- the state is sound
abbrev pub IsSoundState : State → Type 0
IsSoundState state =
    IsSoundBoard (owner_keys state.system_key state.root_key) state.board state.next_uid state.next_registration
