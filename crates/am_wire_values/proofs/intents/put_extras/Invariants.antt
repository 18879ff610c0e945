use Rattle.std.proofs.Common.{◌≡◌, drop}
use Rattle.serde_json.specs.View.{members_view}
use Rattle.am_wire_values.specs.Intents.{with_extras}
use Rattle.am_wire_values.proofs.intents.put_extras.Given as goal

abbrev pub invariant-loop-named : goal.invariant-loop-named
invariant-loop-named l =
    with_extras (drop l.named-index l.extras) (members_view l.members.entries)
    ≡ with_extras l.extras (members_view l.initial.members.entries)
