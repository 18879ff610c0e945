use Rattle.std.proofs.Common.{◌≡◌, map, not, string_bytes}
use Rattle.std.specs.List.{find}
use Rattle.serde_json.specs.View.{members_view}
use Rattle.am_model.specs.Texts.{lists}
use Rattle.am_wire_fields.specs.Fields.{unlisted}
use Rattle.am_wire_fields.proofs.fields.unlisted.Given as goal

abbrev pub invariant-loop-key : goal.invariant-loop-key
invariant-loop-key l =
    let fields = map (λ listed. listed.now) l.fields in
    find (λ key. not (lists fields key)) (map string_bytes l.key-iterator)
    ≡ unlisted fields (members_view l.members.entries)
