-- A hit's component is looked up in the one package of its uid.
use Rattle.std.proofs.Common.{◌≡◌, ℕ, ◌<◌, Bool, true, false, ◌&&◌, ◌||◌, cond, eqb, List, [], ◌∷◌, Some, refl, sym, ap, ◌∙◌, arith}
use Rattle.std.specs.List.{list_any}
use Rattle.std.proofs.lemmas.Bool.{eqb-true}
use Rattle.am_types.specs.declared.device.Package.{Package}
use Rattle.am_types.specs.declared.intent.Intent.{Intent}
use Rattle.am_types.specs.declared.manifest.Decl.{Decl}
use Rattle.am_types.specs.declared.resolve.Hit.{Hit}
use Rattle.am_model.specs.Boards.{package_at}
use Rattle.am_model.specs.Targets.{is_general, is_hit_of, takes_any_host}
use Rattle.am_model.specs.Texts.{is_same}
use Rattle.am_installed.proofs.Rising.{Above, Rises}
use Rattle.am_resolve.specs.Narrowing.{is_general_at, is_general_in}

-- a package of another uid has no component of the hit
other_uid : (intent : Intent) (hit : Hit) (p : Package) (ds : List Decl) → eqb p.uid hit.uid ≡ false
    → list_any (λ (d : Decl). is_hit_of p d hit && list_any (takes_any_host intent) d.filters) ds ≡ false
other_uid intent hit p [] e = refl
other_uid intent hit p (d ∷ ds) e =
    ap (λ b. ((b && is_same d.class hit.component.class) && list_any (takes_any_host intent) d.filters)
    || list_any (λ (d : Decl). is_hit_of p d hit && list_any (takes_any_host intent) d.filters) ds) e
    ∙ other_uid intent hit p ds e

-- in the package of its uid only the class counts
same_uid : (intent : Intent) (hit : Hit) (p : Package) (ds : List Decl) → eqb p.uid hit.uid ≡ true
    → list_any (λ (d : Decl). is_hit_of p d hit && list_any (takes_any_host intent) d.filters) ds
    ≡ is_general_in intent hit.component.class ds
same_uid intent hit p [] e = refl
same_uid intent hit p (d ∷ ds) e =
    ap (λ b. ((b && is_same d.class hit.component.class) && list_any (takes_any_host intent) d.filters)
    || list_any (λ (d : Decl). is_hit_of p d hit && list_any (takes_any_host intent) d.filters) ds) e
    ∙ ap (λ b. (is_same d.class hit.component.class && list_any (takes_any_host intent) d.filters) || b)
    (same_uid intent hit p ds e)

-- after a package no other has its uid
none_above : (intent : Intent) (hit : Hit) (uid : ℕ) (ps : List Package) → hit.uid ≡ uid → Above uid ps
    → is_general ps intent hit ≡ false
none_above intent hit uid [] e a = refl
none_above intent hit uid (p ∷ ps) e a =
    ap (λ b. b || is_general ps intent hit)
    (other_uid intent hit p p.decls (differs p.uid hit.uid (let lower : uid < p.uid = a.0 in omega (arith, e, lower))
    (eqb p.uid hit.uid) refl))
    ∙ none_above intent hit uid ps e a.1
  where
    differs : (a b : ℕ) → b < a → (c : Bool) → eqb a b ≡ c → c ≡ false
    differs a b h true s = absurd (let same : a ≡ b = eqb-true a b s in omega (arith, same, h))
    differs a b h false s = refl

or_false : (b : Bool) → (b || false) ≡ b
or_false true = refl
or_false false = refl

-- whether a hit takes any host is seen in the package of its uid
pub general_at : (intent : Intent) (hit : Hit) (ps : List Package) → Rises ps → is_general ps intent hit
    ≡ is_general_at intent hit.component.class (package_at ps hit.uid)
general_at intent hit [] r = refl
general_at intent hit (p ∷ ps) r = by (eqb p.uid hit.uid) refl (general_at intent hit ps r.1)
  where
    by : (b : Bool) → eqb p.uid hit.uid ≡ b
        → is_general ps intent hit ≡ is_general_at intent hit.component.class (package_at ps hit.uid)
        → is_general (p ∷ ps) intent hit ≡ is_general_at intent hit.component.class
        (cond b (Some p) (package_at ps hit.uid))
    by true e rest =
        ap (λ b. b || is_general ps intent hit) (same_uid intent hit p p.decls e)
        ∙ ap (λ b. is_general_in intent hit.component.class p.decls || b)
        (none_above intent hit p.uid ps (sym (eqb-true p.uid hit.uid e)) r.0)
        ∙ or_false (is_general_in intent hit.component.class p.decls)
    by false e rest = ap (λ b. b || is_general ps intent hit) (other_uid intent hit p p.decls e) ∙ rest
