-- The keys of a table, as a loop goes over them.
use Rattle.std.proofs.Common.{◌≡◌, ℕ, List, [], ◌∷◌, map, refl, ap, String, Global, string_bytes}
use Rattle.toml.specs.View.{members_view}
use Rattle.toml.specs.declared.value.Value.{Value}
use Rattle.am_manifest_filters.specs.Tables.{keys_in}

-- the texts of the keys of a map are those of the table that it is
pub keys_in_view : (es : List (String Global × Value)) → map string_bytes (map (λ e. e.0) es)
    ≡ keys_in (members_view es)
keys_in_view [] = refl
keys_in_view (e ∷ es) = ap (λ (keys : List (List ℕ)). string_bytes e.0 ∷ keys) (keys_in_view es)
