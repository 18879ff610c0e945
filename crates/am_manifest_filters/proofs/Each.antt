-- Reading the values of an array one after the other, as a loop does.
use Rattle.std.proofs.Common.{◌≡◌, ℕ, ◌+◌, ◌≤◌, ◌<◌, List, [], ◌∷◌, ◌++◌, length, drop, get_or, map, Result, Ok, Err, refl, sym, ap, ◌∙◌, append_assoc}
use Rattle.std.proofs.lemmas.List.{append-nil, drop_more, drop_all}
use Rattle.toml.specs.Data.{Data}
use Rattle.toml.specs.View.{view, items_view}
use Rattle.toml.specs.declared.value.Value.{Value}
use Rattle.am_types.specs.declared.manifest.ManifestFault.{ManifestFault}
use Rattle.am_types.specs.declared.failure.Unmade.{Unmade}
use Rattle.am_types.specs.declared.failure.Unmade.TheVariants as unmade
use Rattle.am_types.specs.Reading.{◌>>=◌, Fails}
use Rattle.am_manifest_filters.specs.Tables.{values_of, each}

-- the items that values represent, as a list
pub values_of_view : (vs : List Value) → values_of (items_view vs) ≡ map view vs
values_of_view [] = refl
values_of_view (v ∷ vs) = ap (λ (ds : List Data). view v ∷ ds) (values_of_view vs)

-- what was read before, and what is still read
abbrev pub front_then : {A : Type 0} → List A → Result (List A) ManifestFault → Result (List A) ManifestFault
front_then front read = read >>= λ xs. Ok (front ++ xs)

regroup : {A : Type 0} (front : List A) (x : A) (read : Result (List A) ManifestFault)
    → front_then front (read >>= λ xs. Ok (x ∷ xs)) ≡ front_then (front ++ x ∷ []) read
regroup front x (Ok xs) = ap (λ (ys : List _). Ok ys) (simp append_assoc)
regroup front x (Err f) = refl

-- nothing was read before
pub begins : {A : Type 0} (read : Result (List A) ManifestFault) → front_then [] read ≡ read
begins (Ok xs) = refl
begins (Err f) = refl

-- the values that are left begin with this one
left : (i : ℕ) (v : Value) (values : List Value) → i < length values → v ≡ get_or values i v → drop i values ≡ v
    ∷ drop (i + 1) values
left i v values lt is = drop_more values i v lt ∙ ap (λ (w : Value). w ∷ drop (i + 1) values) (sym is)

module _ {A : Type 0} (read : ℕ → Data → Result A ManifestFault) (front : List A) (i : ℕ) (values : List Value)
    (whole : Result (List A) ManifestFault) where
  pub goes_on : (v : Value) (x : A) → i < length values → v ≡ get_or values i v → read i (view v) ≡ Ok x
      → front_then front (each read i (map view (drop i values))) ≡ whole
      → front_then (front ++ x ∷ []) (each read (i + 1) (map view (drop (i + 1) values))) ≡ whole
  unfolding each
  goes_on v x lt is h so_far =
      let e = left i v values lt is in
      let one : front_then front (each read i (map view (drop i values)))
      ≡ front_then (front ++ x ∷ []) (each read (i + 1) (map view (drop (i + 1) values))) = rw (e, h)
      (regroup front x (each read (i + 1) (map view (drop (i + 1) values)))) in
      sym one ∙ so_far

  pub ends : (e : Unmade ManifestFault) (v : Value) → i < length values → v ≡ get_or values i v
      → Fails e (read i (view v))
      → front_then front (each read i (map view (drop i values))) ≡ whole → Fails e whole
  unfolding each
  ends unmade.NoMemory v lt is h so_far = tt
  ends (unmade.Fault f) v lt is h so_far =
      let e = left i v values lt is in
      let one : front_then front (each read i (map view (drop i values))) ≡ Err f = rw (e, h) refl in
      sym so_far ∙ one

  pub is_done : length values ≤ i → front_then front (each read i (map view (drop i values))) ≡ whole → whole ≡ Ok front
  unfolding each
  is_done le so_far =
      let one : front_then front (each read i (map view (drop i values)))
      ≡ Ok front = rw (drop_all i values le) (ap (λ (xs : List A). Ok xs) (append-nil front)) in
      sym so_far ∙ one
