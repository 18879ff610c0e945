-- Packages in the order of their uids.
use Rattle.std.proofs.Common.{◌≡◌, ℕ, ◌<◌, Bool, true, false, not, cond, ltb, eqb, List, [], ◌∷◌, ◌++◌, filter, refl, sym, ap, ◌∙◌, subst, arith}
use Rattle.std.specs.List.{AllByRecursion}
use Rattle.std.specs.List.Sorted.{IsStrictlyIncreasing, IsStrictlySortedBy}
use Rattle.std.specs.Ordering.{nat_cmp}
use Rattle.std.specs.declared.cmp.Ordering.TheVariants.{Less, Equal, Greater}
use Rattle.std.proofs.lemmas.Bool.{ltb-true, eqb-true}
use Rattle.std.proofs.lemmas.Map.Keys.{sorted_from_strictly_increasing}
use Rattle.std.proofs.lemmas.List.Kept.{IsStrictlyIncreasing-filter}
use Rattle.am_types.specs.declared.device.Package.{Package}
use Rattle.am_model.specs.Boards.{without_package}
use Rattle.am_model.specs.Sound.{uids_of}

-- the uid is below those of all packages
abbrev pub Above : ℕ → List Package → Type 0
Above uid [] = Unit {0}
Above uid (p ∷ ps) = (uid < p.uid) × Above uid ps

-- each uid is below those after it
abbrev pub Rises : List Package → Type 0
Rises [] = Unit {0}
Rises (p ∷ ps) = Above p.uid ps × Rises ps

-- the uids of all packages are below that one
abbrev pub Below : List Package → ℕ → Type 0
Below [] uid = Unit {0}
Below (p ∷ ps) uid = (p.uid < uid) × Below ps uid

pub less_is : (a b : Bool) → cond a Less (cond b Equal Greater) ≡ Less → a ≡ true
less_is true b e = refl
less_is false true e = cc
less_is false false e = cc

above : (uid : ℕ) (ps : List Package) → AllByRecursion (λ y. nat_cmp uid y ≡ Less) (uids_of ps) → Above uid ps
above uid [] a = tt
above uid (p ∷ ps) a = (ltb-true uid p.uid (less_is (ltb uid p.uid) (eqb uid p.uid) a.0), above uid ps a.1)

from_sorted : (ps : List Package) → IsStrictlySortedBy nat_cmp (uids_of ps) → Rises ps
unfolding IsStrictlySortedBy
from_sorted [] s = tt
from_sorted (p ∷ ps) s = (above p.uid ps s.0, from_sorted ps s.1)

pub rises : (ps : List Package) → IsStrictlyIncreasing (uids_of ps) → Rises ps
rises ps up = from_sorted ps (sorted_from_strictly_increasing (uids_of ps) up)

above_last : (uid : ℕ) (ps : List Package) (p : Package) → Above uid (ps ++ p ∷ []) → uid < p.uid
above_last uid [] p a = a.0
above_last uid (q ∷ qs) p a = above_last uid qs p a.1

-- the last uid is the greatest
pub below_last : (ps : List Package) (p : Package) → Rises (ps ++ p ∷ []) → Below ps p.uid
below_last [] p r = tt
below_last (q ∷ qs) p r = (above_last q.uid qs p r.0, below_last qs p r.1)

pub apart : (a b : ℕ) → a < b → (c : Bool) → eqb a b ≡ c → c ≡ false
apart a b h true e = absurd (let same : a ≡ b = eqb-true a b e in omega arith)
apart a b h false e = refl

-- a uid that is greater than all takes none out
pub without_new : (ps : List Package) (uid : ℕ) → Below ps uid → without_package ps uid ≡ ps
without_new [] uid b = refl
without_new (p ∷ ps) uid b =
    ap (λ t. cond (not t) (p ∷ without_package ps uid) (without_package ps uid))
    (apart p.uid uid b.0 (eqb p.uid uid) refl)
    ∙ ap (λ l. p ∷ l) (without_new ps uid b.1)

uids_without : (ps : List Package) (uid : ℕ) → uids_of (without_package ps uid)
    ≡ filter (λ u. not (eqb u uid)) (uids_of ps)
uids_without [] uid = refl
uids_without (p ∷ ps) uid = by (not (eqb p.uid uid)) (uids_without ps uid)
  where
    by : (b : Bool) → uids_of (without_package ps uid) ≡ filter (λ u. not (eqb u uid)) (uids_of ps)
        → uids_of (cond b (p ∷ without_package ps uid) (without_package ps uid))
        ≡ cond b (p.uid ∷ filter (λ u. not (eqb u uid)) (uids_of ps)) (filter (λ u. not (eqb u uid)) (uids_of ps))
    by true e = ap (λ l. p.uid ∷ l) e
    by false e = e

-- packages rise without one of them
pub increasing_without : (ps : List Package) (uid : ℕ) → IsStrictlyIncreasing (uids_of ps)
    → IsStrictlyIncreasing (uids_of (without_package ps uid))
increasing_without ps uid up =
    subst (λ (l : List ℕ). IsStrictlyIncreasing l) (sym (uids_without ps uid))
    (IsStrictlyIncreasing-filter (λ u. not (eqb u uid)) (uids_of ps) up)
