-- What was done is found again at an opening.
use Rattle.std.specs.Prelude.{◌≡◌, List, [], ◌∷◌, ◌++◌, All, IsTrue, Ok}
use Rattle.am_types.specs.declared.device.Device.{Device}
use Rattle.am_types.specs.declared.history.Entry.{Entry}
use Rattle.am_keeper.specs.declared.rows.Rows.{Rows}
use Rattle.am_keeper.specs.Rows.{IsInOrder}
use Rattle.am_model.specs.Sound.{IsSound}
use Rattle.am_history.specs.State.{State}
use Rattle.am_history.specs.Opening.{opening_with}
use Rattle.am_history.specs.Steps.{has_formed_row, step}
use Rattle.am_history.specs.History.{replay}
use Rattle.am_laws_state.specs.Sound.{IsSoundState}
use Rattle.am_laws_kept.specs.Found.{OpensAs, row_kept, rows_after, with_kept}

-- a sound device that opens with rows also opens with those that a history of requests with formed rows has kept since, and
-- what is kept of the state after that history is found
abbrev pub KeptIsFound : Type 0
KeptIsFound =
    (device : Device) (rows : Rows) (opening : State) (history : List Entry) → IsSound device → IsInOrder rows
    → opening_with device rows ≡ Ok opening → All (λ (entry : Entry). IsTrue (has_formed_row entry.request)) history
    → OpensAs device (rows_after opening rows history) (replay opening history)

-- with the row that a formed entry has kept, the device opens as the state after it
abbrev pub StepIsFound : Type 0
StepIsFound =
    (device : Device) (rows : Rows) (state : State) (before : List Entry) (entry : Entry)
    → IsSound device → IsInOrder rows → IsSoundState state → IsTrue (has_formed_row entry.request)
    → OpensAs device rows state
    → OpensAs device (with_kept rows (row_kept state before entry)) (step state before entry).1

-- the row that an entry has kept leaves the rows in order
abbrev pub RowsStayInOrder : Type 0
RowsStayInOrder =
    (rows : Rows) (state : State) (before : List Entry) (entry : Entry) → IsInOrder rows
    → IsInOrder (with_kept rows (row_kept state before entry))

-- one more entry puts the row that it has kept into those of the entries before it
abbrev pub RowsFollow : Type 0
RowsFollow =
    (opening : State) (rows : Rows) (history : List Entry) (entry : Entry)
    → rows_after opening rows (history ++ entry ∷ [])
    ≡ with_kept (rows_after opening rows history) (row_kept (replay opening history) history entry)
