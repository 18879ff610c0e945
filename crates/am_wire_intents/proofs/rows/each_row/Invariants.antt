use Rattle.std.proofs.Common.{◌≡◌, drop, map}
use Rattle.serde_json.specs.View.{view}
use Rattle.am_wire_fields.specs.Lists.{each}
use Rattle.am_wire_fields.proofs.Each.{front_then}
use Rattle.am_wire_intents.specs.Filters.{row_in}
use Rattle.am_wire_intents.proofs.rows.each_row.Given as goal

abbrev pub invariant-loop-value : goal.invariant-loop-value
invariant-loop-value l =
    front_then l.rows.items (each row_in (map view (drop l.value-index l.values))) ≡ each row_in (map view l.values)
