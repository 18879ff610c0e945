-- Packages that are the same once each is stopped.
use Rattle.std.proofs.Common.{◌≡◌, ℕ, suc, Bool, true, false, not, ◌||◌, cond, eqb, List, [], ◌∷◌, ◌++◌, length, refl, sym, ap, ◌∙◌, subst}
use Rattle.std.specs.List.{AllByRecursion, list_any}
use Rattle.std.proofs.lemmas.Bool.{eqb-true}
use Rattle.am_types.specs.declared.device.Package.{Package}
use Rattle.am_model.specs.Boards.{is_package_uid, without_package}
use Rattle.am_laws_kept.specs.Found.{as_stopped}

-- a test that doesn't ask whether a package is stopped
abbrev pub Overlooks : (Package → Bool) → Type 0
Overlooks test = (p : Package) → test (record p { stopped = true }) ≡ test p

any_stopped : (test : Package → Bool) → Overlooks test → (ps : List Package) → list_any test (as_stopped ps)
    ≡ list_any test ps
any_stopped test over [] = refl
any_stopped test over (p ∷ ps) = ap (λ b. b || list_any test (as_stopped ps)) (over p)
    ∙ ap (λ b. test p || b) (any_stopped test over ps)

-- it holds of one of some packages as of one of others
pub any_alike : (test : Package → Bool) → Overlooks test → (ps qs : List Package) → as_stopped ps ≡ as_stopped qs
    → list_any test ps ≡ list_any test qs
any_alike test over ps qs same = sym (any_stopped test over ps) ∙ ap (list_any test) same ∙ any_stopped test over qs

-- there are as many
length_stopped : (ps : List Package) → length (as_stopped ps) ≡ length ps
length_stopped [] = refl
length_stopped (p ∷ ps) = ap suc (length_stopped ps)

pub length_alike : (ps qs : List Package) → as_stopped ps ≡ as_stopped qs → length ps ≡ length qs
length_alike ps qs same = sym (length_stopped ps) ∙ ap (λ (l : List Package). length l) same ∙ length_stopped qs

-- what holds of the uids of some holds of those of the others
to_stopped : (P : ℕ → Type 0) (ps : List Package) → AllByRecursion (λ (p : Package). P p.uid) ps
    → AllByRecursion (λ (p : Package). P p.uid) (as_stopped ps)
to_stopped P [] all = tt
to_stopped P (p ∷ ps) all = (all.0, to_stopped P ps all.1)

of_stopped : (P : ℕ → Type 0) (ps : List Package) → AllByRecursion (λ (p : Package). P p.uid) (as_stopped ps)
    → AllByRecursion (λ (p : Package). P p.uid) ps
of_stopped P [] all = tt
of_stopped P (p ∷ ps) all = (all.0, of_stopped P ps all.1)

pub all_alike : (P : ℕ → Type 0) (ps qs : List Package) → as_stopped ps ≡ as_stopped qs
    → AllByRecursion (λ (p : Package). P p.uid) ps → AllByRecursion (λ (p : Package). P p.uid) qs
all_alike P ps qs same all = of_stopped P qs (subst (λ (l : List Package). AllByRecursion (λ (p : Package). P p.uid) l)
    same (to_stopped P ps all))

-- what holds of the uid of each package holds of an installed one
pub live_has : (P : ℕ → Type 0) (ps : List Package) (uid : ℕ) → AllByRecursion (λ (p : Package). P p.uid) ps
    → is_package_uid ps uid ≡ true → P uid
live_has P [] uid all live = absurd cc
live_has P (p ∷ ps) uid all live = by (eqb p.uid uid) refl live (live_has P ps uid all.1)
  where
    by : (b : Bool) → eqb p.uid uid ≡ b → b || is_package_uid ps uid ≡ true → (is_package_uid ps uid ≡ true → P uid)
        → P uid
    by true is live rest = subst P (eqb-true p.uid uid is) all.0
    by false is live rest = rest live

-- stopped, they are the same without one of them
pub stopped_without : (ps : List Package) (uid : ℕ) → as_stopped (without_package ps uid)
    ≡ without_package (as_stopped ps) uid
stopped_without [] uid = refl
stopped_without (p ∷ ps) uid = by (eqb p.uid uid) (stopped_without ps uid)
  where
    by : (b : Bool) → as_stopped (without_package ps uid) ≡ without_package (as_stopped ps) uid
        → as_stopped (cond (not b) (p ∷ without_package ps uid) (without_package ps uid))
        ≡ cond (not b) (record p { stopped = true } ∷ without_package (as_stopped ps) uid)
        (without_package (as_stopped ps) uid)
    by true rest = rest
    by false rest = ap (λ (l : List Package). record p { stopped = true } ∷ l) rest

-- and with one more behind them
pub stopped_more : (ps : List Package) (p : Package) → as_stopped (ps ++ p ∷ []) ≡ as_stopped ps
    ++ record p { stopped = true } ∷ []
stopped_more [] p = refl
stopped_more (q ∷ qs) p = ap (λ (l : List Package). record q { stopped = true } ∷ l) (stopped_more qs p)
