use Rattle.std.proofs.Common.{◌≡◌}
use Rattle.serde_json.specs.View.{members_view}
use Rattle.am_wire_fields.proofs.Each.{front_then}
use Rattle.am_wire_intents.specs.Extras.{each_named}
use Rattle.am_wire_intents.proofs.extras.each_named.Given as goal

abbrev pub invariant-loop-key : goal.invariant-loop-key
invariant-loop-key l = front_then l.extras.items (each_named (members_view l.key-iterator))
    ≡ each_named (members_view l.members.entries)
