-- An optional field: what was read from it is read again if it is written.
use Rattle.std.proofs.Common.{◌≡◌, ℕ, true, List, Option, Some, None, option_map, Result, Ok, refl, sym, ap, ◌∙◌}
use Rattle.serde_json.specs.Data.{Data, object}
use Rattle.am_wire_fields.specs.declared.fault.WireFault.{WireFault}
use Rattle.am_wire_fields.specs.Fields.{unless_null, field, if_said}
use Rattle.am_wire_read_back.proofs.Kept.{IsKept, ForSome, field_kept}
use Rattle.am_wire_read_back.proofs.Objects.{Entry, members_with, value_at, are_apart, field_at}
use Rattle.am_wire_read_back.proofs.Steps.{step, steps, same_ok}

-- what a reader gives of a value it gives of what is written for that
abbrev pub IsReread : {A : Type 0} → (Data → Result A WireFault) → (A → Data) → Type 0
IsReread {A} read write = (value : Data) (x : A) → IsKept value → read value ≡ Ok x → read (write x) ≡ Ok x

-- no `null` is written
abbrev pub WritesNoNull : {A : Type 0} → (A → Data) → Type 0
WritesNoNull {A} write = (x : A) → unless_null (Some (write x)) ≡ Some (write x)

-- what is read of a body is read of entries that have, under the name, what is written for that
abbrev pub IsFieldReread : {A : Type 0} → List ℕ → (Data → Result A WireFault) → (A → Option Data) → Type 0
IsFieldReread {A} name read write =
    (parent : Data) (x : A) (es : List Entry) → IsKept parent → read parent ≡ Ok x → are_apart es ≡ true
    → value_at name es ≡ write x → read (object (members_with es)) ≡ Ok x

module _ {A : Type 0} (read : Data → Result A WireFault) (write : A → Data) (again : IsReread read write)
    (said : WritesNoNull write) where
  pub written_or_not : (o : Option A) → unless_null (option_map write o) ≡ option_map write o
  written_or_not None = refl
  written_or_not (Some x) = said x

  said_again : (value : Option Data) (o : Option A) → ForSome IsKept value → if_said read value ≡ Ok o
      → if_said read (option_map write o) ≡ Ok o
  said_again None o k h = let e : None ≡ o = same_ok None o h in ap (λ p. if_said read (option_map write p)) (sym e)
      ∙ ap Ok e
  said_again (Some value) o k h =
      let s = step (read value) (λ x. Ok (Some x)) o h in
      let e : Some s.value ≡ o = same_ok (Some s.value) o s.later in
      ap (λ p. if_said read (option_map write p)) (sym e) ∙ (steps (read (write s.value)) (λ x. Ok (Some x)) s.value
      (Some s.value) (again value s.value k s.first) refl ∙ ap Ok e)

  -- if the option was read, it is read from what is written for it
  option_again : (value : Option Data) (o : Option A) (written : Option Data) → ForSome IsKept value
      → if_said read value ≡ Ok o
      → written ≡ unless_null (option_map write o) → if_said read written ≡ Ok o
  option_again value o written k h e = ap (if_said read) (e ∙ written_or_not o) ∙ said_again value o k h

  -- and so is a field of the object that is written
  pub option_field : (name : List ℕ) → IsFieldReread name (λ body. if_said read (field name body)) (option_map write)
  option_field name parent o es k h apart is = option_again (field name parent) o _ (field_kept name parent k) h
      (field_at name es apart ∙ ap unless_null is)
