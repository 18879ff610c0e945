use Rattle.std.proofs.Common.{◌≡◌, map, take}
use Rattle.serde_json.specs.View.{view}
use Rattle.am_wire_values.proofs.as_value.values.Given as goal

abbrev pub invariant-loop-one : goal.invariant-loop-one
invariant-loop-one g l = map view l.values.items ≡ map g.T.AsValue.as_data (take l.one-index l.shown)
