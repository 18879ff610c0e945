use Rattle.std.proofs.Common.{◌≡◌, drop, map}
use Rattle.serde_json.specs.View.{view}
use Rattle.am_wire_fields.specs.Lists.{each, word_in}
use Rattle.am_wire_fields.proofs.Each.{front_then}
use Rattle.am_wire_fields.proofs.lists.words_in.Given as goal

abbrev pub invariant-loop-value : goal.invariant-loop-value
invariant-loop-value l =
    let read = word_in (map (λ listed. listed.now) l.words) l.name in
    front_then (map (λ word. word.now) l.said.items) (each read (map view (drop l.value-index l.values)))
    ≡ each read (map view l.values)
