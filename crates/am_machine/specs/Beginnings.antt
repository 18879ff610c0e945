-- How a manager begins, with or without kept rows.
use Rattle.std.specs.Prelude.{◌≡◌, [], Some, Ok}
use Rattle.am_types.specs.declared.device.Device.{Device}
use Rattle.am_keeper.specs.declared.keeper.Keeper.{Ghosts}
use Rattle.am_keeper.specs.declared.rows.Rows.{Rows}
use Rattle.am_keeper.specs.Rows.{IsInOrder}
use Rattle.am_model.specs.Sound.{IsSound}
use Rattle.am_opening.specs.declared.opened.BeginFault.{BeginFault}
use Rattle.am_opening.specs.declared.opened.BeginFault.TheVariants as faults
use Rattle.am_history.specs.State.{opening}
use Rattle.am_history.specs.Desks.{opening_of}
use Rattle.am_history.specs.Opening.{opening_with}
use Rattle.am_machine.specs.Managed.{Managed}

-- a manager can begin with a device, the rows that were there and the keeper: the device is sound, the rows are in order,
-- and an honest keeper that tells its rows tells these
pub record CanBegin {K : Type 0} (g : Ghosts K) (device : Device) (rows : Rows) (keeper : K) : Type 0 where
  pub sound : IsSound device
  pub order : IsInOrder rows
  pub told : g.is_honest keeper → (told : Rows) → g.rows keeper ≡ Some told → rows ≡ told

-- the manager has begun with these and no history, in the state in which the device opens with the rows
pub record Begins {K : Type 0} (g : Ghosts K) (device : Device) (rows : Rows) (keeper : K) (manager : Managed K) : Type 0
  where
    pub begun : manager ≡ record {
      origin = record { device = device; rows = rows; place = g.place keeper };
      history = [];
      spare = 0;
      keeper = keeper;
    }
    pub opens : opening_with device rows ≡ Ok (opening_of manager.origin)

-- the manager is of that device, begins with its own state, and has no history
pub record BeginsWith {K : Type 0} (device : Device) (manager : Managed K) : Type 0 where
  pub of_device : manager.origin.device ≡ device
  pub start : opening_of manager.origin ≡ opening device
  pub history : manager.history ≡ []

-- memory ran out, and no row was refused
abbrev pub IsNoMemory : BeginFault → Type 0
IsNoMemory (faults.Rows name) = ⊥
IsNoMemory faults.NoMemory = Unit {0}
