-- Packages stay distinct when one is removed, or stopped.
use Rattle.std.proofs.Common.{◌≡◌, ℕ, Bool, true, false, not, cond, eqb, List, [], ◌∷◌, map, refl, ap, subst, sym, ◌∙◌}
use Rattle.std.specs.List.{AllByRecursion, IsDistinct}
use Rattle.am_types.specs.declared.device.Package.{Package}
use Rattle.am_model.specs.Boards.{with_stopped, without_package}
use Rattle.am_model.specs.Sound.{AreDistinct, names_of, uids_of}
use Rattle.am_model.specs.Texts.{is_same}
use Rattle.std.specs.List.Sorted.{IsStrictlyIncreasing}
use Rattle.std.proofs.lemmas.List.Elements.{All-filter, All-from_recursion, recursion_from_All}
use Rattle.am_installed.specs.Installed.{AreInstalled, IsInstalled}
use Rattle.am_installed.proofs.Rising.{increasing_without}

-- what holds of the names of all holds of those of fewer
all_without : (P : List ℕ → Type 0) (ps : List Package) (uid : ℕ) → AllByRecursion P (names_of ps)
    → AllByRecursion P (names_of (without_package ps uid))
all_without P [] uid a = tt
all_without P (p ∷ ps) uid a = by (eqb p.uid uid) (all_without P ps uid a.1)
  where
    by : (b : Bool) → AllByRecursion P (names_of (without_package ps uid))
        → AllByRecursion P (names_of (cond (not b) (p ∷ without_package ps uid) (without_package ps uid)))
    by true h = h
    by false h = (a.0, h)

pub names_without : (ps : List Package) (uid : ℕ) → AreDistinct (names_of ps)
    → AreDistinct (names_of (without_package ps uid))
unfolding IsDistinct
names_without [] uid d = tt
names_without (p ∷ ps) uid d = by (eqb p.uid uid) (names_without ps uid d.1)
  where
    by : (b : Bool) → AreDistinct (names_of (without_package ps uid))
        → AreDistinct (names_of (cond (not b) (p ∷ without_package ps uid) (without_package ps uid)))
    by true h = h
    by false h = (all_without (λ y. is_same p.name y ≡ false) ps uid d.0, h)

-- what stopping one of them doesn't change in a package it doesn't change in all
module _ {X : Type 0} (part : Package → X) (same : (p : Package) (stopped : Bool)
    → part (record p { stopped = stopped }) ≡ part p) where
  parts_stopped : (ps : List Package) (uid : ℕ) (stopped : Bool) → map part (with_stopped ps uid stopped) ≡ map part ps
  parts_stopped [] uid stopped = refl
  parts_stopped (p ∷ ps) uid stopped = by (eqb p.uid uid) (parts_stopped ps uid stopped)
    where
      by : (b : Bool) → map part (with_stopped ps uid stopped) ≡ map part ps
          → part (cond b (record p { stopped = stopped }) p) ∷ map part (with_stopped ps uid stopped) ≡ part p
          ∷ map part ps
      by true e = ap (λ x. x ∷ map part (with_stopped ps uid stopped)) (same p stopped) ∙ ap (λ l. part p ∷ l) e
      by false e = ap (λ l. part p ∷ l) e

pub uids_stopped : (ps : List Package) (uid : ℕ) (stopped : Bool) → uids_of (with_stopped ps uid stopped) ≡ uids_of ps
uids_stopped ps uid stopped = parts_stopped (λ p. p.uid) (λ p stopped. refl) ps uid stopped

pub names_stopped : (ps : List Package) (uid : ℕ) (stopped : Bool) → names_of (with_stopped ps uid stopped)
    ≡ names_of ps
names_stopped ps uid stopped = parts_stopped (λ p. p.name) (λ p stopped. refl) ps uid stopped

each_stopped : (ps : List Package) (uid : ℕ) (stopped : Bool) → AllByRecursion IsInstalled ps
    → AllByRecursion IsInstalled (with_stopped ps uid stopped)
each_stopped [] uid stopped a = tt
each_stopped (p ∷ ps) uid stopped a = by (eqb p.uid uid) (each_stopped ps uid stopped a.1)
  where
    by : (b : Bool) → AllByRecursion IsInstalled (with_stopped ps uid stopped)
        → AllByRecursion IsInstalled (cond b (record p { stopped = stopped }) p ∷ with_stopped ps uid stopped)
    by true h = (record { few = a.0.few; classes = a.0.classes }, h)
    by false h = (a.0, h)

-- without one of them packages are still installed
pub installed_without : (ps : List Package) (uid : ℕ) → AreInstalled ps → AreInstalled (without_package ps uid)
installed_without ps uid installed = record {
  rising = increasing_without ps uid installed.rising;
  names = names_without ps uid installed.names;
  each = All-filter (λ (p : Package). not (eqb p.uid uid)) IsInstalled ps installed.each;
}

-- and with one of them stopped
pub installed_stopped : (ps : List Package) (uid : ℕ) (stopped : Bool) → AreInstalled ps
    → AreInstalled (with_stopped ps uid stopped)
installed_stopped ps uid stopped installed = record {
  rising = subst (λ (l : List ℕ). IsStrictlyIncreasing l) (sym (uids_stopped ps uid stopped)) installed.rising;
  names = subst AreDistinct (sym (names_stopped ps uid stopped)) installed.names;
  each = All-from_recursion IsInstalled (with_stopped ps uid stopped)
      (each_stopped ps uid stopped (recursion_from_All IsInstalled ps installed.each));
}
