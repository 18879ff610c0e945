-- The queries of a package, looked for one place after the other.
use Rattle.std.proofs.Common.{◌≡◌, ℕ, ◌+◌, ◌<◌, false, ◌==◌, List, [], ◌∷◌, length, drop, get_or, sym, ap, ◌∙◌}
use Rattle.std.proofs.lemmas.List.{drop_more}
use Rattle.am_types.specs.declared.device.Package.{Package}
use Rattle.am_types.specs.declared.visible.Queries.{Queries}
use Rattle.am_model.specs.Visibility.{queries_of}

module _ (packages : List Package) (queries : List Queries) (i uid : ℕ) (p : Package) (lt : i < length packages)
    (is : p ≡ get_or packages i p) where
  begins : drop i packages ≡ p ∷ drop (i + 1) packages
  begins = drop_more packages i p lt ∙ ap (λ (q : Package). q ∷ drop (i + 1) packages) (sym is)

  -- another uid: the places after it have what there is
  pub goes_on : i < length queries → (p.uid == uid) ≡ false
      → queries_of (drop (i + 1) packages) (drop (i + 1) queries) uid
      ≡ queries_of (drop i packages) (drop i queries) uid
  goes_on short other =
      let e = begins in
      let f = drop_more queries i (record { names = []; signatures = [] }) short in
      rw (e, f, other)
