-- The slots of a store in memory.
use Rattle.std.proofs.Common.{◌≡◌, ℕ, zero, suc, ◌<◌, Bool, true, false, ◌||◌, if◌then◌else◌, IsTrue, List, [], ◌∷◌, ◌++◌, length, get_or, set, Option, Some, None, refl, sym, ap, ◌∙◌, subst, arith, inl, inr, ◌⊎◌, ◌↔◌}
use Rattle.std.specs.Prelude.{unwrap_or}
use Rattle.std.specs.List.{list_any, position, position_or_len}
use Rattle.std.specs.Cmp.Lexicographic.{nat_list_eq_equiv, same_text as same_bytes}
use Rattle.std.proofs.lemmas.Bool.{cases_Bool}
use Rattle.am_keeper.specs.declared.rows.Rows.{Rows}
use Rattle.am_keeper.specs.declared.store.Slot.{Slot}
use Rattle.am_keeper.specs.Keeping.{same_text}
use Rattle.am_keeper.specs.Shelf.{rows_in_slots, has_slot}

-- texts that are the same are so beside any third one
alike : (a b c : List ℕ) → same_text a b ≡ true → same_text a c ≡ same_text b c
alike a b c e = nat_list_eq_equiv.congr a b c e

-- a text that differs from one of two that are the same differs from the other
apart : (a b c : List ℕ) → same_text a b ≡ false → same_text a c ≡ true → same_text b c ≡ false
apart a b c differs same = nat_list_eq_equiv.symm b c ∙ sym (alike a c b same) ∙ differs

-- rows that are put into the first slot for a place
pub rows_in_slots-set : (slots : List Slot) (i : ℕ) (path place : List ℕ) (rows : Rows) (d : Slot) → path
    ≡ (get_or slots i d).path → i < length slots → same_text (get_or slots i d).path place ≡ true
    → ((k : ℕ) → k < i → same_text (get_or slots k d).path place ≡ false) → (at : List ℕ) (otherwise : Rows)
    → rows_in_slots (set slots i (record { path = path; rows = Some rows })) at otherwise
    ≡ (if same_text place at then rows else rows_in_slots slots at otherwise)
rows_in_slots-set [] i path place rows d is low same before at otherwise = absurd (omega arith)
rows_in_slots-set (slot ∷ slots) zero path place rows d is low same before at otherwise = elim
    (cases_Bool (same_text place at)) [
      | inl hit ↦ rw (is, alike slot.path place at same, hit)
      | inr miss ↦ rw (is, alike slot.path place at same, miss)
    ]
rows_in_slots-set (slot ∷ slots) (suc i) path place rows d is low same before at otherwise =
    let more = rows_in_slots-set slots i path place rows d is (omega arith) same (λ k h. before (suc k) (omega arith))
    at otherwise in
    elim (cases_Bool (same_text slot.path at)) [
      | inl hit ↦ rw (hit, apart slot.path place at (before 0 (omega arith)) hit)
      | inr miss ↦ rw (miss, more)
    ]

-- they leave the paths
pub has_slot-set : (slots : List Slot) (i : ℕ) (path : List ℕ) (rows : Option Rows) (d : Slot) → path
    ≡ (get_or slots i d).path → i < length slots → (at : List ℕ)
    → has_slot (set slots i (record { path = path; rows = rows })) at ≡ has_slot slots at
has_slot-set [] i path rows d is low at = absurd (omega arith)
has_slot-set (slot ∷ slots) zero path rows d is low at = rw is
has_slot-set (slot ∷ slots) (suc i) path rows d is low at = ap (λ b. same_text slot.path at || b)
    (has_slot-set slots i path rows d is (omega arith) at)

-- a new slot for a path that has none
pub rows_in_slots-push : (slots : List Slot) (path at : List ℕ) (otherwise : Rows)
    → rows_in_slots (slots ++ record { path = path; rows = None } ∷ []) at otherwise ≡ rows_in_slots slots at otherwise
rows_in_slots-push [] path at otherwise = elim (cases_Bool (same_text path at))
    [ inl hit ↦ rw hit | inr miss ↦ rw miss ]
rows_in_slots-push (slot ∷ slots) path at otherwise = ap (λ more. if same_text slot.path at then unwrap_or slot.rows
    otherwise else more) (rows_in_slots-push slots path at otherwise)

-- some slot is for the path, so there is a first one
first_slot : (p : Slot → Bool) (slots : List Slot) → list_any p slots ≡ true → position_or_len p slots < length slots
first_slot p [] any = absurd (let e = any in cc)
first_slot p (slot ∷ slots) any = elim (cases_Bool (p slot)) [
  | inl hit ↦ rw hit (omega arith)
  | inr miss ↦ let more = first_slot p slots (rw miss at any) in rw miss (omega arith)
]

pub never_lost : (place : List ℕ) (slots : List Slot) → IsTrue (has_slot slots place)
    → position (λ slot. same_text slot.path place) slots ≡ None → (P : Type 0) → P
never_lost place slots any lost P =
    let low = first_slot (λ slot. same_text slot.path place) slots any in
    absurd (grind (arith, lost))

-- a path is the same as itself
own_text : (path at : List ℕ) → path ≡ at → same_text path at ≡ true
own_text path at is = subst (λ other. same_text path other ≡ true) is (nat_list_eq_equiv.refl path)

-- and a new one is for its path
pub has_slot-push : (slots : List Slot) (path at : List ℕ) → IsTrue
    (has_slot (slots ++ record { path = path; rows = None } ∷ []) at) ↔ (IsTrue (has_slot slots at) ⊎ (path ≡ at))
has_slot-push [] path at = (
  λ h. elim (cases_Bool (same_text path at))
      [ inl hit ↦ inr (same_bytes path at (sym hit)) | inr miss ↦ absurd (let e = rw miss at h in cc) ],
  λ h. elim h
      [ inl was ↦ absurd (let e = was in cc) | inr is ↦ rw (own_text path at is) refl ],
)
has_slot-push (slot ∷ slots) path at =
    let more = has_slot-push slots path at in
    elim (cases_Bool (same_text slot.path at)) [
      | inl hit ↦ (λ h. inl (rw hit refl), λ h. rw hit refl)
      | inr miss ↦ rw miss more
    ]
