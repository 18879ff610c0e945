-- Looking for a package whose name or key stood before.
use Rattle.std.proofs.Common.{◌≡◌, ℕ, ◌+◌, ◌<◌, true, false, List, ◌∷◌, length, drop, get_or, Some, sym, ap, ◌∙◌}
use Rattle.std.proofs.lemmas.List.{drop_more}
use Rattle.am_types.specs.declared.device.Package.{Package}
use Rattle.am_uri.specs.Texts.{with_text}
use Rattle.am_manifest.specs.Devices.{first_taken, is_taken}

module _ (names keys : List (List ℕ)) (ps : List Package) (i : ℕ) (p : Package) (lt : i < length ps)
    (is : p ≡ get_or ps i p) where
  begins : drop i ps ≡ p ∷ drop (i + 1) ps
  begins = drop_more ps i p lt ∙ ap (λ (q : Package). q ∷ drop (i + 1) ps) (sym is)

  pub taken_here : is_taken names keys p ≡ true → first_taken names keys (drop i ps) ≡ Some p.name
  taken_here h = let e = begins in rw (e, h)

  pub taken_later : is_taken names keys p ≡ false → first_taken names keys (drop i ps)
      ≡ first_taken (with_text names p.name) (with_text keys p.key) (drop (i + 1) ps)
  taken_later h = let e = begins in rw (e, h)
