use Rattle.std.proofs.Common.{◌≡◌, ◌++◌, drop, map}
use Rattle.serde_json.specs.View.{view}
use Rattle.am_wire_values.specs.Replies.{entries_data}
use Rattle.am_wire_values.proofs.views.entry_values.Given as goal

abbrev pub invariant-loop-entry : goal.invariant-loop-entry
invariant-loop-entry l =
    map view l.values.items ++ entries_data l.at (drop l.entry-index l.entries) ≡ entries_data l.from l.entries
