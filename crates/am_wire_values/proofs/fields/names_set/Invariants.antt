use Rattle.std.proofs.Common.{◌≡◌, ◌++◌, drop, map}
use Rattle.serde_json.specs.Data.{string}
use Rattle.serde_json.specs.View.{view}
use Rattle.am_wire_values.specs.Names.{names_set}
use Rattle.am_wire_values.proofs.fields.names_set.Given as goal

abbrev pub invariant-loop-is_set : goal.invariant-loop-is_set
invariant-loop-is_set l =
    map view l.values.items ++ map string (names_set (map (λ n. (n.0, n.1.now)) (drop l.is_set-index l.named)))
    ≡ map string (names_set (map (λ n. (n.0, n.1.now)) l.named))
