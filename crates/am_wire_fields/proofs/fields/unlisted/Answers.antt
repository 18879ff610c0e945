-- The loop begins with all keys of the object.
use Rattle.std.proofs.Common.{ℕ, List, ap, ◌∙◌, map, not, string_bytes, String, Global}
use Rattle.std.specs.List.{find}
use Rattle.am_model.specs.Texts.{lists}
use Rattle.am_wire_fields.proofs.Listed.{keys_in_view}
use Rattle.am_wire_fields.proofs.fields.unlisted.Goals as goal

pub loop-key-init : goal.loop-key-init
loop-key-init c =
    let test = λ (key : List ℕ). not (lists (map (λ listed. listed.now) c.args.fields.now) key) in
    ap (λ (keys : List (String Global)). find test (map string_bytes keys))
    (c.into_iter-key-iterator.ensures.into_iter_gives ∙ c.keys-key-items.ensures.rest)
    ∙ ap (find test) (keys_in_view c.args.members.now.entries)
