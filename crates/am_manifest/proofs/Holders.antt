-- Rights of packages: the places of the packages, and one right after the other.
use Rattle.std.proofs.Common.{◌≡◌, ℕ, ◌+◌, ◌-◌, ◌<◌, ◌≤◌, cond, List, [], ◌∷◌, ◌++◌, length, drop, get_or, map, Option, Some, Result, Ok, Err, refl, sym, ap, ◌∙◌, append_assoc, arith}
use Rattle.std.proofs.Math.ListN.{set}
use Rattle.std.proofs.lemmas.List.{drop_more, drop_all, get_or-map, set-set, map-set}
use Rattle.std.specs.BTreeSet.{BTreeSet}
use Rattle.std.specs.Str.{bytes_eq}
use Rattle.toml.specs.View.{view}
use Rattle.toml.specs.declared.value.Value.{Value}
use Rattle.am_types.specs.declared.device.Package.{Package}
use Rattle.am_types.specs.declared.manifest.ManifestFault.{ManifestFault}
use Rattle.am_types.specs.declared.failure.Unmade.{Unmade}
use Rattle.am_types.specs.declared.failure.Unmade.TheVariants as unmade
use Rattle.am_manifest.specs.declared.rights.Right.{Right}
use Rattle.am_types.specs.declared.device.RightKind.{RightKind}
use Rattle.am_types.specs.Reading.{Fails}
use Rattle.am_manifest.specs.Rights.{place_among, more_texts, right_entry, right_put, rights_from, with_right, with_uids}

-- the items that are left begin with this one
left : {X : Type 0} (i : ℕ) (x : X) (xs : List X) → i < length xs → x ≡ get_or xs i x → drop i xs ≡ x ∷ drop (i + 1) xs
left {X} i x xs lt is = drop_more xs i x lt ∙ ap (λ (y : X). y ∷ drop (i + 1) xs) (sym is)

-- one more package before those whose places are known
pub place_more : (packages : List Package) (i : ℕ) (p : Package) → 0 < i → i ≤ length packages → p
    ≡ get_or packages (i - 1) p
    → (old new : List ℕ → Option ℕ) → ((name : List ℕ) → new name ≡ cond (bytes_eq p.name name) (Some (i - 1))
    (old name))
    → ((name : List ℕ) → old name ≡ place_among (drop i packages) i name) → (name : List ℕ) → new name
    ≡ place_among (drop (i - 1) packages) (i - 1) name
place_more packages i p some within is old new added so_far name =
    let back : (i - 1) + 1 ≡ i = omega arith in
    let begins : drop (i - 1) packages ≡ p ∷ drop i packages = left (i - 1) p packages (omega arith) is
    ∙ ap (λ (k : ℕ). p ∷ drop k packages) back in
    let known : old name ≡ place_among (drop i packages) ((i - 1) + 1) name = so_far name
    ∙ ap (λ (k : ℕ). place_among (drop i packages) k name) (sym back) in
    added name ∙ ap (cond (bytes_eq p.name name) (Some (i - 1))) known
    ∙ ap (λ (ps : List Package). place_among ps (i - 1) name) (sym begins)

-- what a set of texts holds
abbrev keys_of : BTreeSet (List ℕ) → List (List ℕ)
keys_of texts = texts.keys

-- a set that is taken out, gets one more text and is put back
pub put_back : (kind : RightKind) (items : List (BTreeSet (List ℕ))) (right : Right) (old none new : BTreeSet (List ℕ))
    → right.holder < length items → old ≡ get_or items right.holder old
    → more_texts kind old.keys right.text ≡ Ok new.keys → right_put kind (map (λ texts. texts.keys) items) right
    ≡ Ok (map (λ texts. texts.keys) (set (set items right.holder none) right.holder new))
unfolding right_put
put_back kind items right old none new lt is more =
    let here : get_or (map keys_of items) right.holder [] ≡ old.keys = get_or-map keys_of items right.holder old [] lt
    ∙ ap keys_of (sym is) in
    let after : map keys_of (set (set items right.holder none) right.holder new)
    ≡ set (map keys_of items) right.holder new.keys = ap (map keys_of) (set-set items right.holder none new)
    ∙ map-set keys_of items right.holder new in
    rw (here, more, after) refl

pub put_fails : (e : Unmade ManifestFault) (kind : RightKind) (items : List (BTreeSet (List ℕ))) (right : Right)
    (old : BTreeSet (List ℕ)) → right.holder < length items → old ≡ get_or items right.holder old
    → Fails e (more_texts kind old.keys right.text) → Fails e (right_put kind (map (λ texts. texts.keys) items) right)
unfolding right_put
put_fails unmade.NoMemory kind items right old lt is more = tt
put_fails (unmade.Fault f) kind items right old lt is more =
    let here : get_or (map keys_of items) right.holder [] ≡ old.keys = get_or-map keys_of items right.holder old [] lt
    ∙ ap keys_of (sym is) in
    rw (here, more) refl

module _ (place : List ℕ → Option ℕ) (kind : RightKind) (held : List (List (List ℕ))) (i : ℕ) (values : List Value)
    (whole : Result (List (List (List ℕ))) ManifestFault) where
  pub right_more : (v : Value) (right : Right) (more : List (List (List ℕ))) → i < length values → v ≡ get_or values i v
      → right_entry place kind i (view v) ≡ Ok right → with_right kind held right ≡ Ok more
      → rights_from place kind held i (map view (drop i values)) ≡ whole
      → rights_from place kind more (i + 1) (map view (drop (i + 1) values)) ≡ whole
  unfolding rights_from
  right_more v right more lt is read put so_far =
      let e = left i v values lt is in
      let one : rights_from place kind held i (map view (drop i values))
      ≡ rights_from place kind more (i + 1) (map view (drop (i + 1) values)) = rw (e, read, put) refl in
      sym one ∙ so_far

  pub entry_fails : (e : Unmade ManifestFault) (v : Value) → i < length values → v ≡ get_or values i v
      → Fails e (right_entry place kind i (view v)) → rights_from place kind held i (map view (drop i values)) ≡ whole
      → Fails e whole
  unfolding rights_from
  entry_fails unmade.NoMemory v lt is read so_far = tt
  entry_fails (unmade.Fault f) v lt is read so_far =
      let e = left i v values lt is in
      let one : rights_from place kind held i (map view (drop i values)) ≡ Err f = rw (e, read) refl in
      sym so_far ∙ one

  pub limit_fails : (e : Unmade ManifestFault) (v : Value) (right : Right) → i < length values → v ≡ get_or values i v
      → right_entry place kind i (view v) ≡ Ok right → Fails e (with_right kind held right)
      → rights_from place kind held i (map view (drop i values)) ≡ whole → Fails e whole
  unfolding rights_from
  limit_fails unmade.NoMemory v right lt is read put so_far = tt
  limit_fails (unmade.Fault f) v right lt is read put so_far =
      let e = left i v values lt is in
      let one : rights_from place kind held i (map view (drop i values)) ≡ Err f = rw (e, read, put) refl in
      sym so_far ∙ one

  pub rights_done : length values ≤ i → rights_from place kind held i (map view (drop i values)) ≡ whole → whole
      ≡ Ok held
  unfolding rights_from
  rights_done le so_far =
      let one : rights_from place kind held i (map view (drop i values)) ≡ Ok held = rw (drop_all i values le) refl in
      sym so_far ∙ one

module _ (front : List (ℕ × List ℕ)) (packages : List Package) (held : List (BTreeSet (List ℕ))) (i : ℕ)
    (whole : List (ℕ × List ℕ)) where
  pub uids_more : (p : Package) (texts : BTreeSet (List ℕ)) → i < length packages → p ≡ get_or packages i p
      → i < length held → texts ≡ get_or held i texts
      → front ++ with_uids (drop i packages) (map (λ ts. ts.keys) (drop i held)) ≡ whole
      → (front ++ map (λ text. (p.uid, text)) texts.keys) ++ with_uids (drop (i + 1) packages)
      (map (λ ts. ts.keys) (drop (i + 1) held)) ≡ whole
  uids_more p texts lt is lt' is' so_far =
      let e = left i p packages lt is in
      let e' = left i texts held lt' is' in
      let one : front ++ with_uids (drop i packages) (map (λ ts. ts.keys) (drop i held))
      ≡ (front ++ map (λ text. (p.uid, text)) texts.keys) ++ with_uids (drop (i + 1) packages)
      (map (λ ts. ts.keys) (drop (i + 1) held)) =
      rw (e, e') (sym (append_assoc front (map (λ text. (p.uid, text)) texts.keys)
      (with_uids (drop (i + 1) packages) (map (λ ts. ts.keys) (drop (i + 1) held))))) in
      sym one ∙ so_far
