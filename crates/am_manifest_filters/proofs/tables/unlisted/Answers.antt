-- The loop begins with all keys of the table.
use Rattle.std.proofs.Common.{ℕ, List, ap, ◌∙◌, map, not, string_bytes, String, Global}
use Rattle.std.specs.List.{find}
use Rattle.am_manifest_filters.proofs.Keys.{keys_in_view}
use Rattle.am_manifest_filters.proofs.tables.unlisted.Goals as goal

pub loop-key-init : goal.loop-key-init
loop-key-init g c = λ known tells.
    let test = λ (key : List ℕ). not (known key) in
    ap (λ (keys : List (String Global)). find test (map string_bytes keys))
    (c.into_iter-key-iterator.ensures.into_iter_gives ∙ c.keys-key-items.ensures.rest)
    ∙ ap (find test) (keys_in_view c.args.table.now.entries)
