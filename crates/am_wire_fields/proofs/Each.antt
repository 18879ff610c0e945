-- Reading the values of an array one after the other, as a loop does.
use Rattle.std.proofs.Common.{◌≡◌, ℕ, ◌+◌, ◌≤◌, ◌<◌, List, [], ◌∷◌, ◌++◌, length, drop, get_or, map, Result, Ok, Err, refl, sym, ap, ◌∙◌, append_assoc}
use Rattle.std.proofs.lemmas.List.{append-nil, length-map, drop_more, drop_all}
use Rattle.serde_json.specs.Data.{Data}
use Rattle.serde_json.specs.View.{view, items_view}
use Rattle.serde_json.specs.declared.value.Value.{Value}
use Rattle.am_wire_fields.specs.declared.fault.WireFault.{WireFault}
use Rattle.am_types.specs.declared.failure.Unmade.{Unmade}
use Rattle.am_types.specs.declared.failure.Unmade.TheVariants as unmade
use Rattle.am_types.specs.Reading.{◌>>=◌, Fails}
use Rattle.am_wire_fields.specs.Lists.{values_of, each}

-- the items that values represent, as a list
pub values_of_view : (vs : List Value) → values_of (items_view vs) ≡ map view vs
values_of_view [] = refl
values_of_view (v ∷ vs) = ap (λ (ds : List Data). view v ∷ ds) (values_of_view vs)

-- as many values are seen as there are
pub length_view : (vs : List Value) → length (map view vs) ≡ length vs
length_view vs = length-map vs view

-- what was read before, and what is still read
abbrev pub front_then : {A : Type 0} → List A → Result (List A) WireFault → Result (List A) WireFault
front_then front read = read >>= λ xs. Ok (front ++ xs)

-- an entry that was read goes to those before it
pub regroup : {A : Type 0} (front : List A) (x : A) (read : Result (List A) WireFault)
    → front_then front (read >>= λ xs. Ok (x ∷ xs)) ≡ front_then (front ++ x ∷ []) read
regroup front x (Ok xs) = ap (λ (ys : List _). Ok ys) (simp append_assoc)
regroup front x (Err f) = refl

-- the values that are left begin with this one
left : (i : ℕ) (v : Value) (values : List Value) → i < length values → v ≡ get_or values i v → drop i values ≡ v
    ∷ drop (i + 1) values
left i v values lt is = drop_more values i v lt ∙ ap (λ (w : Value). w ∷ drop (i + 1) values) (sym is)

module _ {A : Type 0} (read : Data → Result A WireFault) (front : List A) (i : ℕ) (values : List Value)
    (whole : Result (List A) WireFault) where
  pub goes_on : (v : Value) (x : A) → i < length values → v ≡ get_or values i v → read (view v) ≡ Ok x
      → front_then front (each read (map view (drop i values))) ≡ whole
      → front_then (front ++ x ∷ []) (each read (map view (drop (i + 1) values))) ≡ whole
  unfolding each
  goes_on v x lt is h so_far =
      let e = left i v values lt is in
      let one : front_then front (each read (map view (drop i values)))
      ≡ front_then (front ++ x ∷ []) (each read (map view (drop (i + 1) values))) = rw (e, h)
      (regroup front x (each read (map view (drop (i + 1) values)))) in
      sym one ∙ so_far

  pub ends : (e : Unmade WireFault) (v : Value) → i < length values → v ≡ get_or values i v → Fails e (read (view v))
      → front_then front (each read (map view (drop i values))) ≡ whole → Fails e whole
  unfolding each
  ends unmade.NoMemory v lt is h so_far = tt
  ends (unmade.Fault f) v lt is h so_far =
      let e = left i v values lt is in
      let one : front_then front (each read (map view (drop i values))) ≡ Err f = rw (e, h) refl in
      sym so_far ∙ one

  pub is_done : length values ≤ i → front_then front (each read (map view (drop i values))) ≡ whole → whole ≡ Ok front
  unfolding each
  is_done le so_far =
      let one : front_then front (each read (map view (drop i values)))
      ≡ Ok front = rw (drop_all i values le) (ap (λ (xs : List A). Ok xs) (append-nil front)) in
      sym so_far ∙ one
