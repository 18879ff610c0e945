-- Names and keys against the lists of fields.
use Rattle.std.proofs.Common.{◌≡◌, ℕ, Bool, ◌||◌, List, [], ◌∷◌, map, String, Global, string_bytes, refl, ap}
use Rattle.std.specs.List.{list_any}
use Rattle.serde_json.specs.View.{members_view}
use Rattle.serde_json.specs.declared.value.Value.{Value}
use Rattle.am_wire_fields.specs.Fields.{keys_in}

-- a test of some element of a mapped list
pub list_any-map : {X Y : Type 0} (test : Y → Bool) (f : X → Y) (xs : List X) → list_any (λ x. test (f x)) xs
    ≡ list_any test (map f xs)
list_any-map test f [] = refl
list_any-map test f (x ∷ xs) = ap (λ later. test (f x) || later) (list_any-map test f xs)

-- the texts of the keys of a map are those of the object that it is
pub keys_in_view : (es : List (String Global × Value)) → map string_bytes (map (λ e. e.0) es)
    ≡ keys_in (members_view es)
keys_in_view [] = refl
keys_in_view (e ∷ es) = ap (λ (keys : List (List ℕ)). string_bytes e.0 ∷ keys) (keys_in_view es)
