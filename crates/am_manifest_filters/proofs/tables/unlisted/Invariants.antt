use Rattle.std.proofs.Common.{◌≡◌, ℕ, List, Bool, map, not, string_bytes}
use Rattle.std.specs.List.{find}
use Rattle.toml.specs.View.{table_view}
use Rattle.am_manifest_filters.specs.Tables.{unlisted}
use Rattle.am_manifest_filters.proofs.tables.unlisted.Given as goal

abbrev pub invariant-loop-key : goal.invariant-loop-key
invariant-loop-key g l =
    (known : List ℕ → Bool) → ((key : _) (answer : _) → goal.F-post g l.is_known key answer → answer ≡ known key.now)
    → find (λ key. not (known key)) (map string_bytes l.key-iterator) ≡ unlisted known (table_view l.table)
