-- A package is found by halving, as packages are in the order of their uids.
use Rattle.std.proofs.Common.{◌≡◌, ℕ, suc, zero, ◌<◌, ◌≤◌, Bool, true, false, cond, ltb, eqb, List, [], ◌∷◌, length, get_or, Some, None, Err, refl, sym, ap, ◌∙◌, arith, ◌⊎◌, inl, inr}
use Rattle.std.specs.List.{AllWithin, HoldsAt}
use Rattle.std.specs.List.Sorted.{IsBinarySearchResult, IsStrictlyIncreasing}
use Rattle.std.specs.Ordering.{nat_cmp, ordering_index}
use Rattle.std.specs.declared.cmp.Ordering.TheVariants.{Less, Equal, Greater}
use Rattle.std.proofs.lemmas.Bool.{ltb-true, ltb-false, eqb-true, eq-eqb, lt-ltb, false≢true}
use Rattle.am_types.specs.declared.device.Package.{Package}
use Rattle.am_model.specs.Boards.{package_at}
use Rattle.am_model.specs.Sound.{uids_of}
use Rattle.am_installed.proofs.Rising.{Above, Rises, rises, apart, less_is}

equal_is : (a b : Bool) → cond a Less (cond b Equal Greater) ≡ Equal → b ≡ true
equal_is true b e = cc
equal_is false true e = refl
equal_is false false e = cc

greater_is : (a b : Bool) → cond a Less (cond b Equal Greater) ≡ Greater → b ≡ false
greater_is true b e = cc
greater_is false true e = cc
greater_is false false e = refl

above_at : (uid : ℕ) (ps : List Package) → Above uid ps → (i : ℕ) (d : Package) → i < length ps
    → uid < (get_or ps i d).uid
above_at uid [] a i d h = absurd (omega arith)
above_at uid (p ∷ ps) a zero d h = a.0
above_at uid (p ∷ ps) a (suc i) d h = above_at uid ps a.1 i d (omega arith)

-- after a package the uids aren't less
no_less : (ps : List Package) → Rises ps → (i j : ℕ) (d : Package) → i ≤ j → j < length ps
    → (get_or ps i d).uid ≤ (get_or ps j d).uid
no_less [] r i j d le lt = absurd (omega arith)
no_less (p ∷ ps) r zero zero d le lt = omega arith
no_less (p ∷ ps) r zero (suc j) d le lt = let h = above_at p.uid ps r.0 j d (omega arith) in omega arith
no_less (p ∷ ps) r (suc i) zero d le lt = absurd (omega arith)
no_less (p ∷ ps) r (suc i) (suc j) d le lt = no_less ps r.1 i j d (omega arith) (omega arith)

-- the package at a place is the one of its uid
found_at : (ps : List Package) → Rises ps → (i : ℕ) (d : Package) → i < length ps → package_at ps (get_or ps i d).uid
    ≡ Some (get_or ps i d)
found_at [] r i d h = absurd (omega arith)
found_at (p ∷ ps) r zero d h = ap (λ b. cond b (Some p) (package_at ps p.uid)) (eq-eqb p.uid p.uid refl)
found_at (p ∷ ps) r (suc i) d h =
    let q = get_or ps i d in
    let lower : p.uid < q.uid = above_at p.uid ps r.0 i d (omega arith) in
    ap (λ b. cond b (Some p) (package_at ps q.uid)) (apart p.uid q.uid lower (eqb p.uid q.uid) refl)
    ∙ found_at ps r.1 i d (omega arith)

-- a uid that no package has finds none
absent : (ps : List Package) (uid : ℕ) → ((k : ℕ) (d : Package) → k < length ps → (get_or ps k d).uid ≡ uid → ⊥)
    → package_at ps uid ≡ None
absent [] uid h = refl
absent (p ∷ ps) uid h =
    ap (λ b. cond b (Some p) (package_at ps uid)) (by (eqb p.uid uid) refl)
    ∙ absent ps uid (λ k d lt same. h (suc k) d (omega arith) same)
  where
    by : (b : Bool) → eqb p.uid uid ≡ b → b ≡ false
    by true e = absurd (h zero p (omega arith) (eqb-true p.uid uid e))
    by false e = refl

-- comparing answers no less at a greater number
index_rises : (la ea lb eb : Bool) → (lb ≡ true → la ≡ true) → (eb ≡ true → (la ≡ true) ⊎ (ea ≡ true))
    → ordering_index (cond la Less (cond ea Equal Greater)) ≤ ordering_index (cond lb Less (cond eb Equal Greater))
index_rises true ea lb eb p q = omega arith
index_rises false ea true eb p q = absurd (false≢true (p refl))
index_rises false true false true p q = omega arith
index_rises false true false false p q = omega arith
index_rises false false false false p q = omega arith
index_rises false false false true p q = elim (q refl) [ inl e ↦ absurd (false≢true e) | inr e ↦ absurd (false≢true e) ]

le_cases : (a b : ℕ) → a ≤ b → (a < b) ⊎ (a ≡ b)
le_cases a b h = by (ltb a b) refl
  where
    by : (t : Bool) → ltb a b ≡ t → (a < b) ⊎ (a ≡ b)
    by true e = inl (ltb-true a b e)
    by false e = inr (let no_lower : b ≤ a = ltb-false a b e in omega arith)

cmp_rises : (a b uid : ℕ) → a ≤ b → ordering_index (nat_cmp a uid) ≤ ordering_index (nat_cmp b uid)
cmp_rises a b uid h =
    index_rises (ltb a uid) (eqb a uid) (ltb b uid) (eqb b uid)
    (λ e. let lower : b < uid = ltb-true b uid e in lt-ltb a uid (omega arith))
    (λ e. let same : b ≡ uid = eqb-true b uid e in
    elim (le_cases a b h) [
      | inl lower ↦ inl (lt-ltb a uid (omega arith))
      | inr equal ↦ inr (eq-eqb a uid (omega arith))
    ])

module _ (ps : List Package) (uid : ℕ) (up : IsStrictlyIncreasing (uids_of ps)) where
  -- a hit is the package
  pub found_by_search : (i : ℕ) (d : Package) → i < length ps → HoldsAt (λ (p : Package). nat_cmp p.uid uid ≡ Equal) ps
      i → Some (get_or ps i d) ≡ package_at ps uid
  found_by_search i d lt holds =
      let same : (get_or ps i d).uid ≡ uid = eqb-true (get_or ps i d).uid uid
      (equal_is (ltb (get_or ps i d).uid uid) (eqb (get_or ps i d).uid uid) (holds d)) in
      sym (found_at ps (rises ps up) i d lt) ∙ ap (package_at ps) same

  -- and if there is none, no package has the uid
  pub absent_by_search : (i : ℕ) → IsBinarySearchResult (λ (p : Package). nat_cmp p.uid uid) ps (Err i) → None
      ≡ package_at ps uid
  absent_by_search i result =
      sym (absent ps uid (λ k d lt same. by k d lt same (side k i)))
    where
      side : (k i : ℕ) → (k < i) ⊎ (i ≤ k)
      side k i = at (ltb k i) refl
        where
          at : (t : Bool) → ltb k i ≡ t → (k < i) ⊎ (i ≤ k)
          at true e = inl (ltb-true k i e)
          at false e = inr (ltb-false k i e)

      parts : AllWithin (λ (p : Package). nat_cmp p.uid uid ≡ Less) ps 0 i
          × AllWithin (λ (p : Package). nat_cmp p.uid uid ≡ Greater) ps i (length ps)
      parts = result (λ a b d le lt. cmp_rises _ _ uid (no_less ps (rises ps up) a b d le lt))

      by : (k : ℕ) (d : Package) → k < length ps → (get_or ps k d).uid ≡ uid → (k < i) ⊎ (i ≤ k) → ⊥
      by k d lt same (inl below) =
          let less : (get_or ps k d).uid < uid = ltb-true (get_or ps k d).uid uid
          (less_is (ltb (get_or ps k d).uid uid) (eqb (get_or ps k d).uid uid) (parts.0 k d (omega arith) below)) in
          omega arith
      by k d lt same (inr above) =
          false≢true (sym (greater_is (ltb (get_or ps k d).uid uid) (eqb (get_or ps k d).uid uid)
          (parts.1 k d above lt)) ∙ eq-eqb (get_or ps k d).uid uid same)
