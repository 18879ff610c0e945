-- Bodies with one field, two or three: if each field is read from what is written for it, the request is.
use Rattle.std.proofs.Common.{◌≡◌, ℕ, Bool, true, List, [], ◌∷◌, Option, Some, option_map, Result, Ok, refl, sym, subst}
use Rattle.std.specs.Prelude.{codes}
use Rattle.serde_json.specs.Data.{Data, boolean, string, object}
use Rattle.am_types.specs.declared.intent.Component.{Component}
use Rattle.am_types.specs.declared.intent.Intent.{Intent}
use Rattle.am_types.specs.declared.request.Request.{Request}
use Rattle.am_uri.specs.declared.text.Form.TheVariants.{Any}
use Rattle.am_wire_fields.specs.declared.fault.WireFault.{WireFault}
use Rattle.am_wire_fields.specs.Fields.{optional_truth, required_by, required_truth}
use Rattle.am_wire_fields.specs.Numbers.{required_natural, required_up_to, optional_natural}
use Rattle.am_types.specs.Reading.{◌>>=◌}
use Rattle.am_wire_fields.specs.Texts.{required_text}
use Rattle.am_wire_intents.specs.Components.{component_in}
use Rattle.am_wire_intents.specs.Intents.{required_intent, optional_intent}
use Rattle.am_wire.specs.Activities.{fields_of}
use Rattle.am_wire_values.specs.Fields.{natural, some_truth}
use Rattle.am_wire_values.specs.Intents.{component_data, intent_data}
use Rattle.am_wire_values.specs.Requests.{request_data}
use Rattle.am_wire_read_back.proofs.Components.{required_component_again}
use Rattle.am_wire_read_back.proofs.Intents.{required_intent_again, intent_field}
use Rattle.am_wire_read_back.proofs.Kept.{IsKept}
use Rattle.am_wire_read_back.proofs.Numbers.{required_natural_again, required_up_to_again, natural_field}
use Rattle.am_wire_read_back.proofs.Objects.{Entry, members_with, value_at, are_apart, are_listed, only_listed}
use Rattle.am_wire_read_back.proofs.Options.{IsFieldReread}
use Rattle.am_wire_read_back.proofs.Steps.{step, steps, same_ok}
use Rattle.am_wire_read_back.proofs.Texts.{required_text_again, required_truth_at, truth_field}

-- a body of these fields has no others
pub fields_known : (fields : List (List ℕ)) (es : List Entry) → are_listed fields es ≡ true
    → fields_of fields (object (members_with es)) ≡ Ok tt
unfolding fields_of
fields_known fields es h = only_listed (codes "body") fields es h

-- ---- parts

-- a field of a body: its name, its reader, what is written under its name, and that what was read is read of that
pub record Part (A : Type 0) : Type 0 where
  pub name : List ℕ
  pub read : Data → Result A WireFault
  pub write : A → Option Data
  pub again : IsFieldReread name read write

abbrev pub part : {A : Type 0} (name : List ℕ) (read : Data → Result A WireFault) (write : A → Option Data)
    → IsFieldReread name read write → Part A
part name read write again = record { name = name; read = read; write = write; again = again }

abbrev pub number : List ℕ → Part ℕ
number name = part name (required_natural name) (λ n. Some (natural n)) (required_natural_again name)

abbrev pub number_up_to : ℕ → List ℕ → Part ℕ
number_up_to greatest name =
    part name (required_up_to greatest name) (λ n. Some (natural n)) (required_up_to_again greatest name)

abbrev pub number_if : List ℕ → Part (Option ℕ)
number_if name = part name (optional_natural name) (option_map natural) (natural_field name)

abbrev pub text : ℕ → List ℕ → Part (List ℕ)
text limit name = part name (required_text Any limit name) (λ t. Some (string t)) (required_text_again Any limit name)

abbrev pub truth : List ℕ → Part Bool
truth name =
    part name (required_truth name) (λ b. Some (boolean b)) (λ value b es k h apart is. required_truth_at name b es apart is)

abbrev pub truth_or_false : List ℕ → Part Bool
truth_or_false name =
    part name (optional_truth name) some_truth (λ value b es k h apart is. truth_field name b es apart is)

abbrev pub component : List ℕ → Part Component
component name =
    part name (required_by component_in name) (λ c. Some (component_data c)) (required_component_again name)

abbrev pub intent : List ℕ → Part Intent
intent name = part name (required_intent name) (λ i. Some (intent_data i)) (required_intent_again name)

abbrev pub intent_if : List ℕ → Part (Option Intent)
intent_if name = part name (optional_intent name) (option_map intent_data) (intent_field name)

-- ---- requests

-- the entries have these names alone, each once, and are what is written for the request
abbrev pub AreOf : List (List ℕ) → List Entry → Request → Type 0
AreOf fields es r = (are_listed fields es ≡ true) × (are_apart es ≡ true) × (request_data r ≡ object (members_with es))

-- what is written under the name of a part is what the part writes
abbrev pub IsAt : {A : Type 0} → Part A → A → List Entry → Type 0
IsAt p x es = value_at p.name es ≡ p.write x

-- one part
module _ {A : Type 0} (p : Part A) (make : A → Request) where
  abbrev pub read_one : Data → Result Request WireFault
  read_one value = fields_of (p.name ∷ []) value >>= λ known. p.read value >>= λ x. Ok (make x)

  abbrev pub one_entries : A → List Entry
  one_entries x = (p.name, p.write x) ∷ []

  pub one_again : ((x : A) → AreOf (p.name ∷ []) (one_entries x) (make x) × IsAt p x (one_entries x))
      → (value : Data) (r : Request) → IsKept value → read_one value ≡ Ok r → read_one (request_data r) ≡ Ok r
  one_again are value r k h =
      let one = step (fields_of (p.name ∷ []) value) _ r h in
      let two = step (p.read value) _ r one.later in
      let e = are two.value in
      let d = object (members_with (one_entries two.value)) in
      let got = make two.value in
      let P : Request → Type 0 = λ r. read_one (request_data r) ≡ Ok r in
      let Q : Data → Type 0 = λ d. read_one d ≡ Ok got in
      subst P (same_ok got r two.later)
      (subst Q (sym e.0.2)
      (steps (fields_of (p.name ∷ []) d) _ tt got (fields_known (p.name ∷ []) (one_entries two.value) e.0.0)
      (steps (p.read d) _ two.value got (p.again value two.value (one_entries two.value) k two.first e.0.1 e.1) refl)))

-- two parts
module _ {A B : Type 0} (p : Part A) (q : Part B) (make : A → B → Request) where
  abbrev pub read_two : Data → Result Request WireFault
  read_two value = fields_of (p.name ∷ q.name ∷ []) value >>= λ known. p.read value >>= λ x. q.read value >>= λ y. Ok
      (make x y)

  abbrev pub two_entries : A → B → List Entry
  two_entries x y = (q.name, q.write y) ∷ (p.name, p.write x) ∷ []

  pub two_again : ((x : A) (y : B) → AreOf (p.name ∷ q.name ∷ []) (two_entries x y) (make x y)
      × IsAt p x (two_entries x y) × IsAt q y (two_entries x y))
      → (value : Data) (r : Request) → IsKept value → read_two value ≡ Ok r → read_two (request_data r) ≡ Ok r
  two_again are value r k h =
      let fields = p.name ∷ q.name ∷ [] in
      let one = step (fields_of fields value) _ r h in
      let two = step (p.read value) _ r one.later in
      let three = step (q.read value) _ r two.later in
      let e = are two.value three.value in
      let es = two_entries two.value three.value in
      let got = make two.value three.value in
      let P : Request → Type 0 = λ r. read_two (request_data r) ≡ Ok r in
      let Q : Data → Type 0 = λ d. read_two d ≡ Ok got in
      subst P (same_ok got r three.later)
      (subst Q (sym e.0.2)
      (steps (fields_of fields (object (members_with es))) _ tt got (fields_known fields es e.0.0)
      (steps (p.read (object (members_with es))) _ two.value got (p.again value two.value es k two.first e.0.1 e.1)
      (steps (q.read (object (members_with es))) _ three.value got
      (q.again value three.value es k three.first e.0.1 e.2) refl))))

-- three parts
module _ {A B C : Type 0} (p : Part A) (q : Part B) (s : Part C) (make : A → B → C → Request) where
  abbrev pub read_three : Data → Result Request WireFault
  read_three value =
      fields_of (p.name ∷ q.name ∷ s.name ∷ []) value >>= λ known. p.read value >>= λ x. q.read value >>= λ y. s.read
      value >>= λ z. Ok (make x y z)

  abbrev pub three_entries : A → B → C → List Entry
  three_entries x y z = (s.name, s.write z) ∷ (q.name, q.write y) ∷ (p.name, p.write x) ∷ []

  pub three_again : ((x : A) (y : B) (z : C) → AreOf (p.name ∷ q.name ∷ s.name ∷ []) (three_entries x y z) (make x y z)
      × IsAt p x (three_entries x y z) × IsAt q y (three_entries x y z) × IsAt s z (three_entries x y z))
      → (value : Data) (r : Request) → IsKept value → read_three value ≡ Ok r → read_three (request_data r) ≡ Ok r
  three_again are value r k h =
      let one = step (fields_of (p.name ∷ q.name ∷ s.name ∷ []) value) _ r h in
      let two = step (p.read value) _ r one.later in
      let three = step (q.read value) _ r two.later in
      let four = step (s.read value) _ r three.later in
      let e = are two.value three.value four.value in
      let es = three_entries two.value three.value four.value in
      let d = object (members_with es) in
      let got = make two.value three.value four.value in
      let P : Request → Type 0 = λ r. read_three (request_data r) ≡ Ok r in
      let Q : Data → Type 0 = λ d. read_three d ≡ Ok got in
      subst P (same_ok got r four.later)
      (subst Q (sym e.0.2)
      (steps (fields_of (p.name ∷ q.name ∷ s.name ∷ []) d) _ tt got
      (fields_known (p.name ∷ q.name ∷ s.name ∷ []) es e.0.0)
      (steps (p.read d) _ two.value got (p.again value two.value es k two.first e.0.1 e.1)
      (steps (q.read d) _ three.value got (q.again value three.value es k three.first e.0.1 e.2)
      (steps (s.read d) _ four.value got (s.again value four.value es k four.first e.0.1 e.3) refl)))))
