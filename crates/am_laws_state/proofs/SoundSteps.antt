-- Each step of a request leaves a sound state.
use Rattle.std.proofs.Common.{◌≡◌, ℕ, ◌+◌, ◌<◌, Bool, true, false, not, List, [], ◌∷◌, ◌++◌, subst, arith}
use Rattle.std.specs.Prelude.{filter, ◌==◌, nat_le, length}
use Rattle.std.specs.List.{AllByRecursion}
use Rattle.std.proofs.lemmas.Bool.{leb-false}
use Rattle.std.proofs.lemmas.List.Elements.{recursion_from_All}
use Rattle.am_types.specs.declared.device.Package.{Package}
use Rattle.am_types.specs.declared.manifest.Manifest.{Manifest}
use Rattle.am_types.specs.declared.resolve.Registration.{Registration}
use Rattle.am_types.specs.declared.request.Request.{Request}
use Rattle.am_model.specs.Sound.{owner_keys}
use Rattle.am_manifest.specs.Manifests.{IsAppManifest}
use Rattle.am_manifest.proofs.Soundness.{manifest_sound}
use Rattle.am_history.specs.State.{State, with_packages}
use Rattle.am_history.specs.Opening.{before_package}
use Rattle.am_history.specs.Packages.{no_uid, forget, is_key_used, is_name_used, installed, is_full}
use Rattle.am_laws_state.specs.Sound.{AreSoundReceivers, IsSoundBoard, IsSoundState}
use Rattle.am_laws_state.proofs.FreeNames.{name_is_free, key_is_free}
use Rattle.am_model.specs.Lists.{inserted}
use Rattle.am_laws.proofs.Requests.{Steps}
use Rattle.am_laws_state.proofs.SoundBoards.{board_stopped, board_without, board_receivers}
use Rattle.am_laws_state.proofs.SoundPackages.{apps_inserted, apps_raised, inserted_last, last_is_new, manifest_app}
use Rattle.am_laws_state.proofs.SoundReceivers.{receivers_left, receivers_more}
use Rattle.am_laws_state.proofs.SoundRights.{rights_through, inserted_stays, grants_given, links_given}
use Rattle.am_laws.proofs.Tests.{neither}

module _ (state : State) (sound : IsSoundState state) where
  abbrev owners : List (List ℕ)
  owners = owner_keys state.system_key state.root_key

  -- a package that comes
  installed_sound : (key : List ℕ) (manifest : Manifest) → IsAppManifest manifest
      → is_name_used state.board.packages manifest.«package» ≡ false
      → is_key_used state key ≡ false → is_full state ≡ false
      → IsSoundState (record (with_packages state (state.board.packages ++ installed state manifest key ∷ []))
      { next_uid = state.next_uid + 1 })
  installed_sound key manifest app name_unused key_unused room =
      let apps = apps_inserted owners state.board.packages (state.next_uid + 1) new
      (apps_raised owners state.board.packages state.next_uid (state.next_uid + 1) (omega arith) sound.packages)
      (record {
        sound = manifest_app new sound.packages.next app.sound;
        room = leb-false 256 (length state.board.packages) (neither (nat_le 256 (length state.board.packages))
            (state.next_uid == no_uid) room).0;
        new = last_is_new state.next_uid state.board.packages below;
        below = omega arith;
        name = (app.other, name_is_free manifest.«package» state.board.packages name_unused);
        key = key_is_free state.system_key state.root_key key state.board.packages key_unused;
      }) in
      let placed : IsSoundBoard owners (record (state.board) {
        packages = inserted before_package new
            state.board.packages;
      }) (state.next_uid + 1) state.next_registration = record {
        packages = apps;
        grants = rights_through state.board.packages (inserted before_package new state.board.packages) _
            (inserted_stays new state.board.packages) sound.grants;
        links = rights_through state.board.packages (inserted before_package new state.board.packages) _
            (inserted_stays new state.board.packages) sound.links;
        registered = sound.registered;
      } in
      subst (λ (ps : List Package). IsSoundBoard owners (record (state.board) { packages = ps }) (state.next_uid + 1)
      state.next_registration)
      (inserted_last new state.board.packages below) placed
    where
      new : Package
      new = installed state manifest key

      below : AllByRecursion (λ (p : Package). p.uid < state.next_uid) state.board.packages
      below = recursion_from_All (λ (p : Package). p.uid < state.next_uid) state.board.packages sound.packages.below

  -- other registered receivers
  received : (registered : List Registration) (next : ℕ) → AreSoundReceivers registered next
      → IsSoundBoard owners (record (state.board) { registered = registered }) state.next_uid next
  received registered next receivers = board_receivers owners state.board state.next_uid state.next_registration sound
      registered next receivers

  -- some of them
  received_left : (keeps : Registration → Bool) → IsSoundBoard owners
      (record (state.board) { registered = filter keeps state.board.registered }) state.next_uid state.next_registration
  received_left keeps =
      received (filter keeps state.board.registered) state.next_registration
      (receivers_left keeps state.board.registered state.next_registration sound.registered)

  -- a uid that is forgotten
  forget_sound : (uid : ℕ) → IsSoundState (forget state uid)
  forget_sound uid = received_left (λ (r : Registration). not (r.uid == uid))

  -- each step
  pub sound_after : (caller : ℕ) (request : Request) → Steps IsSoundState state caller request
  sound_after caller request = record {
    here = sound;
    started = λ uid intent source component found landed did is admits placed.
        board_stopped owners state.board state.next_uid state.next_registration sound found.0 false;
    served = λ uid intent component found did is admits. board_stopped owners state.board state.next_uid
        state.next_registration sound found.0 false;
    sent = λ sender intent permission ordered did unprotected. sound;
    ended = λ keeps. sound;
    unserved = λ keeps. sound;
    registered = λ filter permission asked.
        let r : Registration = record {
          number = state.next_registration;
          uid = caller;
          filter = filter;
          permission =
              permission;
        } in
        received (state.board.registered ++ r ∷ []) (state.next_registration + 1)
        (receivers_more state.board.registered r sound.registered);
    taken_back = λ found. received_left (λ (r : Registration). not (r.number == found.number));
    finished = λ number answer holder asked is own. sound;
    got = λ kind code intent flags got asked given. sound;
    changed = λ after left same one. one;
    installed = λ text key manifest asked admin is name_unused key_unused room. installed_sound key manifest
        (manifest_sound text manifest is) name_unused key_unused room;
    gone = λ uid. board_without owners (forget state uid).board state.next_uid state.next_registration
        (forget_sound uid) uid;
    stopped = λ uid. board_stopped owners (forget state uid).board state.next_uid state.next_registration
        (forget_sound uid) uid true;
    granted = λ uid permission held live room. record {
      packages = sound.packages;
      grants = grants_given state.board.packages state.board.grants uid permission held live room sound.grants;
      links = sound.links;
      registered = sound.registered;
    };
    linked = λ uid host approved live room. record {
      packages = sound.packages;
      grants = sound.grants;
      links = links_given state.board.packages state.board.links uid host approved live room sound.links;
      registered = sound.registered;
    };
    advanced = λ more fits. sound;
  }
