use Rattle.std.proofs.Common.{◌≡◌, ◌++◌, drop, map}
use Rattle.serde_json.specs.View.{view}
use Rattle.am_wire_values.specs.Filters.{row_of}
use Rattle.am_wire_values.proofs.filters.add_keyed.Given as goal

abbrev pub invariant-loop-value : goal.invariant-loop-value
invariant-loop-value g l =
    map view l.rows.items ++ map (λ value. row_of l.key (g.T.AsValue.as_data value)) (drop l.value-index l.shown)
    ≡ map view l.initial.rows.items ++ map (λ value. row_of l.key (g.T.AsValue.as_data value)) l.shown
