use Rattle.std.proofs.Common.{◌≡◌, ◌++◌, drop, map}
use Rattle.serde_json.specs.View.{view}
use Rattle.am_wire_values.proofs.filters.add.Given as goal

abbrev pub invariant-loop-one : goal.invariant-loop-one
invariant-loop-one g l =
    map view l.rows.items ++ map g.T.AsValue.as_data (drop l.one-index l.shown) ≡ map view l.initial.rows.items
    ++ map g.T.AsValue.as_data l.shown
