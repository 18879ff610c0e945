-- Whether the package of a uid is stopped: the first with the uid tells, as packages are in the order of their uids.
use Rattle.std.proofs.Common.{◌≡◌, ℕ, ◌<◌, Bool, true, false, ◌&&◌, ◌||◌, cond, eqb, List, [], ◌∷◌, Option, Some, None, refl, ap, ◌∙◌, sym, subst, arith}
use Rattle.std.proofs.Math.Bool.{or-false}
use Rattle.std.proofs.lemmas.Bool.{eqb-true}
use Rattle.am_types.specs.declared.device.Package.{Package}
use Rattle.am_model.specs.Boards.{package_at}
use Rattle.am_model.specs.Receivers.{is_stopped}
use Rattle.am_installed.proofs.Rising.{Above, Rises}

-- there is a package, and it is stopped
abbrev pub stopped_in : Option Package → Bool
stopped_in None = false
stopped_in (Some p) = p.stopped

-- a greater number is another
other_than : (a b : ℕ) → b < a → (c : Bool) → eqb a b ≡ c → c ≡ false
other_than a b h true e = absurd (let same : a ≡ b = eqb-true a b e in omega arith)
other_than a b h false e = refl

-- no package above the uid has it
none_above : (uid : ℕ) (ps : List Package) → Above uid ps → is_stopped ps uid ≡ false
none_above uid [] a = refl
none_above uid (p ∷ ps) a =
    ap (λ b. (b && p.stopped) || is_stopped ps uid) (other_than p.uid uid a.0 (eqb p.uid uid) refl)
    ∙ none_above uid ps a.1

-- the package of the uid is stopped if the first with the uid is
pub stopped_at : (ps : List Package) (uid : ℕ) → Rises ps → stopped_in (package_at ps uid) ≡ is_stopped ps uid
stopped_at [] uid r = refl
stopped_at (p ∷ ps) uid r = by (eqb p.uid uid) refl (stopped_at ps uid r.1)
  where
    by : (b : Bool) → eqb p.uid uid ≡ b → stopped_in (package_at ps uid) ≡ is_stopped ps uid
        → stopped_in (cond b (Some p) (package_at ps uid)) ≡ ((b && p.stopped) || is_stopped ps uid)
    by true e h = sym (ap (λ b. p.stopped || b) (none_above uid ps
        (subst (λ (n : ℕ). Above n ps) (eqb-true p.uid uid e) r.0)) ∙ or-false p.stopped)
    by false e h = h
