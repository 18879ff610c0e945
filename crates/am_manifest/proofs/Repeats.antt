-- Looking for a class that occurs twice, from the last class on.
use Rattle.std.proofs.Common.{◌≡◌, ℕ, ◌+◌, ◌-◌, ◌<◌, ◌≤◌, Bool, true, false, cond, List, ◌∷◌, length, drop, get_or, Option, Some, refl, sym, ap, ◌∙◌, arith, nat_cmp, is_eq}
use Rattle.std.specs.Prelude.{◌||◌}
use Rattle.std.specs.Cmp.{eq_by_cmp_equiv}
use Rattle.std.specs.Cmp.Lexicographic.{slice_cmp, nat_list_cmp_total}
use Rattle.std.proofs.lemmas.List.{drop_more}
use Rattle.am_types.specs.declared.manifest.Decl.{Decl}
use Rattle.am_uri.specs.Texts.{is_among}
use Rattle.am_manifest.specs.Manifests.{classes, first_repeated}

-- the same texts are the same from either side
pub flipped : (a b : List ℕ) → is_eq (slice_cmp nat_cmp a b) ≡ is_eq (slice_cmp nat_cmp b a)
flipped a b = (eq_by_cmp_equiv nat_list_cmp_total).symm a b

or_cond : (b c : Bool) → cond b true c ≡ (b || c)
or_cond true c = refl
or_cond false c = refl

module _ (decls : List Decl) (i : ℕ) (d : Decl) (some : 0 < i) (within : i ≤ length decls)
    (is : d ≡ get_or decls (i - 1) d) where
  begins : drop (i - 1) decls ≡ d ∷ drop i decls
  begins =
      let back : (i - 1) + 1 ≡ i = omega arith in
      drop_more decls (i - 1) d (omega arith) ∙ ap (λ (x : Decl). x ∷ drop ((i - 1) + 1) decls) (sym is)
      ∙ ap (λ (k : ℕ). d ∷ drop k decls) back

  pub later_more : (old new : List (List ℕ)) → ((text : List ℕ) → is_among text new
      ≡ cond (is_eq (slice_cmp nat_cmp d.class text)) true (is_among text old))
      → ((text : List ℕ) → is_among text old ≡ is_among text (classes (drop i decls))) → (text : List ℕ)
      → is_among text new ≡ is_among text (classes (drop (i - 1) decls))
  later_more old new added so_far text =
      added text ∙ ap (λ (b : Bool). cond b true (is_among text old)) (flipped d.class text)
      ∙ ap (cond (is_eq (slice_cmp nat_cmp text d.class)) true) (so_far text)
      ∙ or_cond (is_eq (slice_cmp nat_cmp text d.class)) (is_among text (classes (drop i decls)))
      ∙ ap (λ (ds : List Decl). is_among text (classes ds)) (sym begins)

  pub repeated_more : (old : List (List ℕ)) (repeated : Option (List ℕ))
      → ((text : List ℕ) → is_among text old ≡ is_among text (classes (drop i decls))) → repeated
      ≡ first_repeated (classes (drop i decls))
      → cond (is_among d.class old) (Some d.class) repeated ≡ first_repeated (classes (drop (i - 1) decls))
  repeated_more old repeated so_far e =
      ap (λ (b : Bool). cond b (Some d.class) repeated) (so_far d.class)
      ∙ ap (cond (is_among d.class (classes (drop i decls))) (Some d.class)) e
      ∙ ap (λ (ds : List Decl). first_repeated (classes ds)) (sym begins)
