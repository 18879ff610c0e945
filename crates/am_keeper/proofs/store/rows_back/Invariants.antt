use Rattle.std.proofs.Common.{◌≡◌, drop}
use Rattle.am_keeper.specs.declared.rows.Rows.{Rows}
use Rattle.am_keeper.specs.Shelf.{rows_in_slots}
use Rattle.am_keeper.proofs.store.rows_back.Given as goal

abbrev pub invariant-loop-slot : goal.invariant-loop-slot
invariant-loop-slot l = (otherwise : Rows) → rows_in_slots (drop l.slot-index l.slots) l.path otherwise
    ≡ rows_in_slots l.slots l.path otherwise
