-- How a manager without kept rows begins.
use Rattle.std.proofs.Common.{◌≡◌, Result, Ok, Err, ap, ◌∙◌, subst}
use Rattle.std.specs.Prelude.{IfErr, IfOk}
use Rattle.am_types.specs.declared.device.Device.{Device}
use Rattle.am_types.specs.declared.failure.NoMemory.{NoMemory}
use Rattle.am_keeper.specs.declared.keeper.Keeper.{Ghosts}
use Rattle.am_keeper.specs.declared.rows.Rows.{Rows}
use Rattle.am_keeper.specs.Rows.{no_rows}
use Rattle.am_model.specs.Sound.{IsSound}
use Rattle.am_history.specs.State.{opening}
use Rattle.am_history.specs.Opening.{opening_with}
use Rattle.am_history.specs.Desks.{opening_of}
use Rattle.am_history.proofs.OpeningLaws.{no_rows_open_the_device, opening_without_rows}
use Rattle.am_machine.specs.Managed.{Managed}
use Rattle.am_opening.specs.declared.opened.BeginFault.{BeginFault}
use Rattle.am_opening.specs.declared.opened.BeginFault.TheVariants as faults
use Rattle.am_opening.specs.Openings.{Refuses}
use Rattle.am_machine.specs.Beginnings.{Begins, BeginsWith, IsNoMemory}

-- without rows none is refused
pub only_no_memory : {X : Type 0} (begun : Result X BeginFault) (device : Device) (rows : Rows) → IsSound device → rows
    ≡ no_rows
    → IfErr begun (λ fault. Refuses fault (opening_with device rows)) → IfErr begun IsNoMemory
only_no_memory (Ok manager) device rows sound none refuses = tt
only_no_memory (Err (faults.Rows name)) device rows sound none refuses =
    let opens : opening_with device rows ≡ Ok (opening device) = ap (opening_with device) none
    ∙ no_rows_open_the_device device sound in
    absurd cc
only_no_memory (Err faults.NoMemory) device rows sound none refuses = tt

module _ {K : Type 0} where
  -- a manager that is begun without rows begins with the device's own state
  begins_with : (g : Ghosts K) (manager : Managed K) (device : Device) (rows : Rows) (keeper : K) → IsSound device
      → rows ≡ no_rows → Begins g device rows keeper manager → BeginsWith device manager
  begins_with g manager device rows keeper sound none begins =
      record {
        of_device = ap (λ (m : Managed K). m.origin.device) begins.begun;
        start = ap (λ (m : Managed K). opening_of m.origin) begins.begun
            ∙ ap (λ (r : Rows). opening_of (record { device = device; rows = r; place = g.place keeper })) none
            ∙ opening_without_rows device (g.place keeper) sound;
        history = ap (λ (m : Managed K). m.history) begins.begun;
      }

  -- the manager that began is such a one
  pub begins_if : (g : Ghosts K) (begun : Result (Managed K) BeginFault) (result : Result (Managed K) NoMemory)
      (device : Device) (rows : Rows) (keeper : K) → IsSound device → rows ≡ no_rows
      → IfOk result (λ manager. begun ≡ Ok manager) → IfOk begun (Begins g device rows keeper)
      → IfOk result (λ manager. BeginsWith device manager)
  begins_if g begun (Ok manager) device rows keeper sound none is begins =
      begins_with g manager device rows keeper sound none
      (subst (λ (b : Result (Managed K) BeginFault). IfOk b (Begins g device rows keeper)) is begins)
  begins_if g begun (Err ran_out) device rows keeper sound none is begins = tt
