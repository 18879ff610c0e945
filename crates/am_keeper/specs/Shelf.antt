-- What a store in memory holds.
use Rattle.std.specs.Prelude.{ℕ, Bool, List, [], ◌∷◌, if◌then◌else◌, All, unwrap_or, Result, Ok, Err}
use Rattle.std.specs.List.{list_any}
use Rattle.am_keeper.specs.declared.failure.KeepFail.{KeepFail}
use Rattle.am_keeper.specs.declared.failure.KeepFail.TheVariants.{Failed, NoMemory}
use Rattle.am_keeper.specs.declared.rows.Rows.{Rows}
use Rattle.am_keeper.specs.declared.store.StoredRows.{StoredRows}
use Rattle.am_keeper.specs.declared.store.Slot.{Slot}
use Rattle.am_keeper.specs.Rows.{IsInOrder, no_rows}
use Rattle.am_keeper.specs.Keeping.{same_text}
use Rattle.am_keeper.specs.Memory.{one_more}

-- the rows at each path are in order
abbrev pub ArePlaces : List StoredRows → Type 0
ArePlaces = All (λ place. IsInOrder place.rows)

-- the rows of the first place with this path, or none
abbrev pub rows_in_places : List StoredRows → List ℕ → Rows
rows_in_places [] at = no_rows
rows_in_places (place ∷ more) at = if same_text place.path at then place.rows else rows_in_places more at

-- what came back to the slot for this path, or other rows if nothing did
abbrev pub rows_in_slots : List Slot → List ℕ → Rows → Rows
rows_in_slots [] at otherwise = otherwise
rows_in_slots (slot ∷ more) at otherwise = if same_text slot.path at then unwrap_or slot.rows otherwise else
    rows_in_slots more at otherwise

-- there is a slot for this path
abbrev pub has_slot : List Slot → List ℕ → Bool
has_slot slots at = list_any (λ slot. same_text slot.path at) slots

-- what a store in memory holds: the rows from the start, the slots, the numbers of the attaches that fail, how many
-- attaches there were, and its two counts
pub record Shelf : Type 0 where
  pub places : List StoredRows
  pub slots : List Slot
  pub failing : List ℕ
  pub attaches : ℕ
  pub failed_attaches : ℕ
  pub keeper_faults : ℕ

-- the rows at a path
abbrev pub rows_on : Shelf → List ℕ → Rows
rows_on shelf at = rows_in_slots shelf.slots at (rows_in_places shelf.places at)

-- a store that hasn't been called yet
abbrev pub fresh_shelf : List StoredRows → List ℕ → Shelf
fresh_shelf places failing = record {
  places = places;
  slots = [];
  failing = failing;
  attaches = 0;
  failed_attaches = 0;
  keeper_faults = 0;
}

-- the store after an attach that was to leave these slots: a failure is counted, and leaves the slots as they are
abbrev pub after_attach : {X : Type 0} → Shelf → List Slot → Result X KeepFail → Shelf
after_attach shelf slots (Ok done) = record shelf { slots = slots; attaches = one_more shelf.attaches }
after_attach shelf slots (Err Failed) = record shelf {
  attaches = one_more shelf.attaches;
  failed_attaches = one_more
      shelf.failed_attaches;
}
after_attach shelf slots (Err NoMemory) = record shelf { attaches = one_more shelf.attaches }
