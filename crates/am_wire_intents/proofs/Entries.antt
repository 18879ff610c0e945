-- Reading the members of an object one after the other, as a loop does.
use Rattle.std.proofs.Common.{◌≡◌, ◌≢◌, suc, ◌==◌, if◌then◌else◌, codes, List, [], ◌∷◌, ◌++◌, length, map, Result, Ok, Err, refl, sym, ap, ◌∙◌, arith, String, Global, string_bytes}
use Rattle.std.proofs.lemmas.Bool.{ne_eqb}
use Rattle.std.proofs.lemmas.List.{append-nil}
use Rattle.serde_json.specs.View.{view, members_view}
use Rattle.serde_json.specs.declared.value.Value.{Value}
use Rattle.am_types.specs.declared.intent.Named.{Named}
use Rattle.am_wire_fields.specs.declared.fault.WireFault.{WireFault}
use Rattle.am_wire_fields.specs.declared.fault.WireFault.TheVariants.{WrongKind}
use Rattle.am_types.specs.declared.failure.Unmade.{Unmade}
use Rattle.am_types.specs.declared.failure.Unmade.TheVariants as unmade
use Rattle.am_wire_fields.specs.Fields.{keys_in}
use Rattle.am_types.specs.Reading.{Fails}
use Rattle.am_wire_fields.proofs.Each.{front_then, regroup}
use Rattle.am_wire_intents.specs.Extras.{each_named, named_in}
use Rattle.am_wire_intents.specs.Filters.{some_values}

-- an object has as many keys as its map has entries
pub length_keys : (es : List (String Global × Value)) → length (keys_in (members_view es)) ≡ length es
length_keys [] = refl
length_keys (e ∷ es) = ap suc (length_keys es)

-- values are some values if there is one
pub some_viewed : (vs : List Value) → some_values (map view vs) ≡ (if length vs == 0 then Err
    (WrongKind (codes "actions")) else Ok (map view vs))
unfolding some_values
some_viewed [] = refl
some_viewed (v ∷ vs) =
    let ne : suc (length vs) ≢ 0 = omega arith in
    rw (ne_eqb (suc (length vs)) 0 ne) refl

module _ (front : List Named) (entries : List (String Global × Value)) (e : String Global × Value)
    (left : List (String Global × Value)) (is : entries ≡ e ∷ left) (whole : Result (List Named) WireFault) where
  pub goes_on : (x : Named) → named_in (string_bytes e.0) (view e.1) ≡ Ok x
      → front_then front (each_named (members_view entries)) ≡ whole
      → front_then (front ++ x ∷ []) (each_named (members_view left)) ≡ whole
  unfolding each_named
  goes_on x h so_far =
      let one : front_then front (each_named (members_view entries))
      ≡ front_then (front ++ x ∷ []) (each_named (members_view left)) = rw (is, h)
      (regroup front x (each_named (members_view left))) in
      sym one ∙ so_far

  pub ends : (fault : Unmade WireFault) → Fails fault (named_in (string_bytes e.0) (view e.1))
      → front_then front (each_named (members_view entries)) ≡ whole → Fails fault whole
  unfolding each_named
  ends unmade.NoMemory h so_far = tt
  ends (unmade.Fault f) h so_far =
      let one : front_then front (each_named (members_view entries)) ≡ Err f = rw (is, h) refl in
      sym so_far ∙ one

pub is_done : (front : List Named) (entries : List (String Global × Value)) (whole : Result (List Named) WireFault)
    → entries ≡ [] → front_then front (each_named (members_view entries)) ≡ whole → whole ≡ Ok front
unfolding each_named
is_done front entries whole is so_far =
    let one : front_then front (each_named (members_view entries))
    ≡ Ok front = rw is (ap (λ (all : List Named). Ok all) (append-nil front)) in
    sym so_far ∙ one
