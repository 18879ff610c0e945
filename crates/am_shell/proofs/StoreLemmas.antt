-- What a keeper that comes back leaves in the store.
use Rattle.std.proofs.Common.{◌≡◌, ◌≢◌, ℕ, ◌≤◌, Bool, true, false, if◌then◌else◌, IsTrue, List, Option, Some, None, refl, sym, ap, ◌∙◌, subst, arith, inl, inr}
use Rattle.std.specs.Prelude.{is_some, count_by}
use Rattle.std.specs.Cmp.Lexicographic.{nat_list_eq_equiv, same_text as same_bytes}
use Rattle.std.proofs.lemmas.Bool.{cases_Bool}
use Rattle.am_types.specs.declared.history.Entry.{Entry}
use Rattle.am_keeper.specs.declared.rows.Rows.{Rows}
use Rattle.am_keeper.specs.Keeping.{same_text, raised_by, rows_after as rows_back}
use Rattle.am_history.specs.Desks.{Origin, opening_of}
use Rattle.am_laws_kept.specs.Found.{rows_after}
use Rattle.am_machine.specs.Managed.{is_unkept}
use Rattle.am_shell.specs.Kept.{IsUnchanged, Leaves}
use Rattle.am_shell.specs.World.{StoreView}

-- a test whose outcome is known
test_true : {X : Type 0} (b : Bool) (x y : X) → b ≡ true → (if b then x else y) ≡ x
test_true b x y e = rw e

test_false : {X : Type 0} (b : Bool) (x y : X) → b ≡ false → (if b then x else y) ≡ y
test_false b x y e = rw e

-- rows that come back to a place are there
there : (place : Option (List ℕ)) (told : Rows) (at : List ℕ) (before : Rows) → place ≡ Some at
    → rows_back place told at before ≡ told
there None told at before is = cc
there (Some path) told at before is =
    let same : path ≡ at = cc in
    test_true (same_text path at) told before (subst (λ (p : List ℕ). same_text p at ≡ true) (sym same)
    (nat_list_eq_equiv.refl at))

-- and those at other places stay
elsewhere : (place : Option (List ℕ)) (told : Rows) (at : List ℕ) (before : Rows) → place ≢ Some at
    → rows_back place told at before ≡ before
elsewhere None told at before apart = refl
elsewhere (Some path) told at before apart = elim (cases_Bool (same_text path at)) [
  | inl hit ↦ absurd (apart (ap (λ p. Some p) (same_bytes path at (sym hit))))
  | inr miss ↦ test_false (same_text path at) told before miss
]

-- rows that are told
told_rows : (rows : Option Rows) → IsTrue (is_some rows) → (told : Rows) × (rows ≡ Some told)
told_rows None is = absurd (cc)
told_rows (Some told) is = (told, refl)

-- a count that rose by more is above
rises_more : (few many count : ℕ) → few ≤ many → raised_by few count ≤ raised_by many count
rises_more few many count le = grind (arith, le)

-- a keeper of the rows that the history has kept, which comes back to its place
pub leaves : (origin : Origin) (history : List Entry) (old new : StoreView) (Honest : Type 0) (place : Option (List ℕ))
    (rows : Option Rows) (faults : ℕ)
    → new.tells ≡ old.tells → place ≡ origin.place → (IsTrue old.tells → Honest × IsTrue (is_some rows))
    → (Honest → (told : Rows) → rows ≡ Some told → told ≡ rows_after (opening_of origin) origin.rows history)
    → (IsTrue old.tells → Honest → (told : Rows) → rows ≡ Some told → (at : List ℕ) → new.rows at
    ≡ rows_back place told at (old.rows at))
    → new.faults ≡ raised_by faults old.faults → count_by is_unkept history ≤ faults
    → Leaves origin origin.place history old new
leaves origin history old new Honest place rows faults tells same honest found back counts unkept = record {
  tells = tells;
  others = λ t at apart.
      let sure = honest t in
      let told = told_rows rows sure.1 in
      back t sure.0 told.0 told.1 at ∙ elsewhere place told.0 at (old.rows at)
      (subst (λ (p : Option (List ℕ)). p ≢ Some at) (sym same) apart);
  kept = λ t at is.
      let sure = honest t in
      let told = told_rows rows sure.1 in
      back t sure.0 told.0 told.1 at ∙ there place told.0 at (old.rows at) (same ∙ is) ∙ found sure.0 told.0 told.1;
  unkept = subst (λ (n : ℕ). raised_by (count_by is_unkept history) old.faults ≤ n) (sym counts)
      (rises_more (count_by is_unkept history) faults old.faults unkept);
}

-- where nothing else changed before, and the place is the one that was asked for
pub leaves_asked : (origin : Origin) (place : Option (List ℕ)) (history : List Entry) (old now new : StoreView)
    → IsUnchanged old now → origin.place ≡ place → Leaves origin origin.place history now new
    → Leaves origin place history old new
leaves_asked origin place history old now new same at_place left = record {
  tells = left.tells ∙ same.tells;
  others = λ t at apart.
      let now_tells : IsTrue now.tells = same.tells ∙ t in
      left.others now_tells at (subst (λ (p : Option (List ℕ)). p ≢ Some at) (sym at_place) apart) ∙ same.rows t at;
  kept = λ t at is.
      let now_tells : IsTrue now.tells = same.tells ∙ t in
      left.kept now_tells at (at_place ∙ is);
  unkept = subst (λ (n : ℕ). raised_by (count_by is_unkept history) n ≤ new.faults) same.faults left.unkept;
}
