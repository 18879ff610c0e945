-- What a manager and the desk over it are, as contracts see them.
use Rattle.std.specs.Prelude.{◌≡◌, ◌≤◌, ℕ, Bool, not, List, length, count_by, Option, Some}
use Rattle.am_types.specs.declared.history.Entry.{Entry}
use Rattle.am_keeper.specs.declared.keeper.Keeper.{Ghosts}
use Rattle.am_keeper.specs.declared.rows.Rows.{Rows}
use Rattle.am_model.specs.Sound.{IsSound}
use Rattle.am_history.specs.State.{State}
use Rattle.am_history.specs.History.{replay, weight_of, IsLegal}
use Rattle.am_history.specs.Desks.{Origin, opening_of}
use Rattle.am_laws_kept.specs.Found.{rows_after}
use Rattle.am_machine.specs.declared.opened.Opened.{Opened}

-- a manager: where it comes from, the calls that it has stored since, how many more it has room for, and its keeper
pub record Managed (K : Type 0) : Type 0 where
  pub origin : Origin
  pub history : List Entry
  pub spare : ℕ
  pub keeper : K

-- where a manager comes from that was opened so, over a keeper at that place
abbrev pub origin_at : Opened → Option (List ℕ) → Origin
origin_at opened place = record { device = opened.device; rows = opened.rows; place = place }

-- a manager behind one desk, and the history that it had when it was handed over
pub record Served (K : Type 0) : Type 0 where
  pub managed : Managed K
  pub handed : List Entry

-- the entry's row wasn't kept
abbrev pub is_unkept : Entry → Bool
is_unkept entry = not entry.kept

-- what a manager of a sound device holds is the state that its history leaves, a history that could have been made, and
-- what its entries weigh together
pub record Holds (origin : Origin) (live : State) (history : List Entry) (weight : ℕ) : Type 0 where
  pub sound : IsSound origin.device
  pub replayed : replay (opening_of origin) history ≡ live
  pub legal : IsLegal (opening_of origin) history
  pub weighed : weight ≡ weight_of history
  pub most : weight ≤ 536870912
  pub few : length history ≤ 1048576

-- for each entry whose row wasn't kept the keeper counted a fault, and a keeper that is honest and tells its rows tells
-- those that the history has kept
pub record HoldsKept {K : Type 0} (g : Ghosts K) (origin : Origin) (history : List Entry) (keeper : K) : Type 0 where
  pub unkept : count_by is_unkept history ≤ g.faults keeper
  pub found : g.is_honest keeper → (told : Rows) → g.rows keeper ≡ Some told
      → told ≡ rows_after (opening_of origin) origin.rows history
