use Rattle.std.proofs.Common.{◌≡◌, drop, map}
use Rattle.serde_json.specs.View.{view}
use Rattle.am_wire_fields.specs.Texts.{text_in}
use Rattle.am_wire_fields.specs.Lists.{each}
use Rattle.am_wire_fields.proofs.Each.{front_then}
use Rattle.am_wire_fields.proofs.lists.texts_in.Given as goal

abbrev pub invariant-loop-value : goal.invariant-loop-value
invariant-loop-value l =
    let read = text_in l.form 1024 l.name in
    front_then l.texts.items (each read (map view (drop l.value-index l.values))) ≡ each read (map view l.values)
