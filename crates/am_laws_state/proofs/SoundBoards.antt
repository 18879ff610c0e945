-- What is installed, what was given to it and the registered receivers stay sound together.
use Rattle.std.proofs.Common.{ℕ, Bool, List}
use Rattle.am_types.specs.declared.resolve.Registration.{Registration}
use Rattle.am_model.specs.Boards.{Board, with_stopped}
use Rattle.am_history.specs.Packages.{removed}
use Rattle.am_laws_state.specs.Sound.{AreSoundReceivers, IsSoundBoard}
use Rattle.am_laws_state.proofs.SoundPackages.{apps_without, apps_stopped}
use Rattle.am_laws_state.proofs.SoundRights.{rights_through, stopped_stays, grants_gone, links_gone}

module _ (owners : List (List ℕ)) (board : Board) (next_uid next : ℕ) (sound : IsSoundBoard owners board next_uid next)
  where
    -- a package is stopped, or not any more
    pub board_stopped : (uid : ℕ) (stopped : Bool) → IsSoundBoard owners
        (record board { packages = with_stopped board.packages uid stopped }) next_uid next
    board_stopped uid stopped = record {
      packages = apps_stopped owners board.packages next_uid uid stopped sound.packages;
      grants = rights_through board.packages (with_stopped board.packages uid stopped) _
          (stopped_stays board.packages uid stopped) sound.grants;
      links = rights_through board.packages (with_stopped board.packages uid stopped) _
          (stopped_stays board.packages uid stopped) sound.links;
      registered = sound.registered;
    }

    -- a package goes with its rights
    pub board_without : (uid : ℕ) → IsSoundBoard owners (removed board uid) next_uid next
    board_without uid = record {
      packages = apps_without owners board.packages next_uid uid sound.packages;
      grants = grants_gone board.packages board.grants uid sound.grants;
      links = links_gone board.packages board.links uid sound.links;
      registered = sound.registered;
    }

    -- other registered receivers
    pub board_receivers : (registered : List Registration) (more : ℕ) → AreSoundReceivers registered more
        → IsSoundBoard owners (record board { registered = registered }) next_uid more
    board_receivers registered more receivers = record {
      packages = sound.packages;
      grants = sound.grants;
      links = sound.links;
      registered = receivers;
    }
