-- Questions about what an intent would reach: what was read from a body is read from what is written for it.
use Rattle.std.proofs.Common.{◌≡◌, ℕ, true, false, List, [], ◌∷◌, Option, Some, None, option_map, Ok, refl, ap, ◌∙◌, subst}
use Rattle.std.specs.Prelude.{codes}
use Rattle.serde_json.specs.Data.{Data, string, object}
use Rattle.am_types.specs.declared.intent.Intent.{Intent}
use Rattle.am_types.specs.declared.manifest.Kind.{Kind}
use Rattle.am_types.specs.declared.manifest.Kind.TheVariants.{Activity, Service, Receiver}
use Rattle.am_types.specs.declared.request.Request.{Request}
use Rattle.am_types.specs.declared.request.Request.TheVariants as asks
use Rattle.am_uri.specs.declared.text.Form.TheVariants.{Any}
use Rattle.am_wire_fields.specs.Texts.{optional_text}
use Rattle.am_wire_intents.specs.Intents.{required_intent}
use Rattle.am_wire.specs.Activities.{fields_of}
use Rattle.am_wire.specs.Accounts.{is_receiver, text_at, asks_receivers, explain_fields, permission_for, asked_with, explain_in}
use Rattle.am_wire.specs.Words.{kind_of}
use Rattle.am_wire_values.specs.Intents.{intent_data}
use Rattle.am_wire_values.specs.Names.{kind_name}
use Rattle.am_wire_values.specs.Requests.{explain_data, request_data}
use Rattle.am_wire_read_back.proofs.Activities.{kind_at}
use Rattle.am_wire_read_back.proofs.Intents.{required_intent_again}
use Rattle.am_wire_read_back.proofs.Kept.{IsKept}
use Rattle.am_wire_read_back.proofs.Objects.{Entry, members_with, value_at, are_apart, found_at}
use Rattle.am_wire_read_back.proofs.Parts.{fields_known}
use Rattle.am_wire_read_back.proofs.Steps.{step, steps, same_ok}
use Rattle.am_wire_read_back.proofs.Texts.{text_field}

-- the fields that each question has
abbrev first_entries : Kind → Intent → Option (List ℕ) → List Entry
first_entries kind intent caller =
    (codes "as", option_map string caller) ∷ (codes "intent", Some (intent_data intent))
    ∷ (codes "kind", Some (string (kind_name kind))) ∷ []

-- the fields of a question that isn't about receivers
abbrev other_entries : Kind → Intent → Option (List ℕ) → Option (List ℕ) → List Entry
other_entries kind intent caller shown = (codes "of", option_map string shown) ∷ first_entries kind intent caller

-- the fields of one that is
abbrev pub explain_entries : Kind → Intent → Option (List ℕ) → Option (List ℕ) → Option (List ℕ) → List Entry
explain_entries kind intent caller permission shown =
    (codes "of", option_map string shown) ∷ (codes "permission", option_map string permission)
    ∷ first_entries kind intent caller

-- receivers are asked about if the written kind is theirs
asks_at : (es : List Entry) (kind : Kind) → are_apart es ≡ true → value_at (codes "kind") es
    ≡ Some (string (kind_name kind)) → asks_receivers (object (members_with es)) ≡ is_receiver (Some (kind_name kind))
unfolding asks_receivers
asks_at es kind apart is = ap (λ o. is_receiver (text_at o)) (found_at (codes "kind") es apart ∙ is)

-- what each field said is read of an object that says it
fields_again : (value : Data) (kind : Kind) (intent : Intent) (caller permission shown : Option (List ℕ))
    (es : List Entry) → IsKept value
    → required_intent (codes "intent") value ≡ Ok intent → optional_text Any 1024 (codes "as") value ≡ Ok caller
    → optional_text Any 1024 (codes "of") value ≡ Ok shown
    → are_apart es ≡ true → value_at (codes "kind") es ≡ Some (string (kind_name kind)) → value_at (codes "intent") es
    ≡ Some (intent_data intent)
    → value_at (codes "as") es ≡ option_map string caller → value_at (codes "of") es ≡ option_map string shown
    → fields_of (explain_fields (asks_receivers (object (members_with es)))) (object (members_with es)) ≡ Ok tt
    → permission_for kind (object (members_with es)) ≡ Ok permission
    → explain_in (object (members_with es)) ≡ Ok (asks.Explain kind intent caller permission shown)
unfolding explain_in asked_with
fields_again value kind intent caller permission shown es k said-intent said-as said-of apart at-kind at-intent at-as
    at-of known required =
    let d = object (members_with es) in
    let got = asks.Explain kind intent caller permission shown in
    steps (fields_of (explain_fields (asks_receivers d)) d) _ tt got known
    (steps (kind_of d) _ kind got (kind_at kind es apart at-kind)
    (steps (required_intent (codes "intent") d) _ intent got (required_intent_again (codes "intent") value intent es k
    said-intent apart at-intent)
    (steps (optional_text Any 1024 (codes "as") d) _ caller got (text_field Any 1024 (codes "as") value caller es k
    said-as apart at-as)
    (steps (permission_for kind d) _ permission got required
    (steps (optional_text Any 1024 (codes "of") d) _ shown got (text_field Any 1024 (codes "of") value shown es k
    said-of apart at-of) refl)))))

-- a question about a kind that isn't receivers
other_again : (kind : Kind) → is_receiver (Some (kind_name kind)) ≡ false
    → ((d : Data) → permission_for kind d ≡ Ok None)
    → (value : Data) (intent : Intent) (caller shown : Option (List ℕ)) → IsKept value
    → required_intent (codes "intent") value ≡ Ok intent → optional_text Any 1024 (codes "as") value ≡ Ok caller
    → optional_text Any 1024 (codes "of") value ≡ Ok shown
    → explain_in (object (members_with (other_entries kind intent caller shown)))
    ≡ Ok (asks.Explain kind intent caller None shown)
unfolding explain_fields
other_again kind is none value intent caller shown k one two four =
    let es = other_entries kind intent caller shown in
    let d = object (members_with es) in
    let known : fields_of (explain_fields (asks_receivers d)) d ≡ Ok tt = ap (λ b. fields_of (explain_fields b) d)
    (asks_at es kind refl refl ∙ is) ∙ fields_known (explain_fields false) es refl in
    fields_again value kind intent caller None shown es k one two four refl refl refl refl refl known (none d)

explain_of_again : (value : Data) (kind : Kind) (intent : Intent) (caller permission shown : Option (List ℕ))
    → IsKept value
    → required_intent (codes "intent") value ≡ Ok intent → optional_text Any 1024 (codes "as") value ≡ Ok caller
    → permission_for kind value ≡ Ok permission
    → optional_text Any 1024 (codes "of") value ≡ Ok shown → explain_in
    (explain_data kind intent caller permission shown) ≡ Ok (asks.Explain kind intent caller permission shown)
unfolding explain_fields permission_for explain_data
explain_of_again value Activity intent caller None shown k one two three four = other_again Activity refl (λ d. refl)
    value intent caller shown k one two four
explain_of_again value Activity intent caller (Some permission) shown k one two three four = absurd (cc)
explain_of_again value Service intent caller None shown k one two three four = other_again Service refl (λ d. refl)
    value intent caller shown k one two four
explain_of_again value Service intent caller (Some permission) shown k one two three four = absurd (cc)
explain_of_again value Receiver intent caller permission shown k one two three four =
    let es = explain_entries Receiver intent caller permission shown in
    let d = object (members_with es) in
    let known : fields_of (explain_fields (asks_receivers d)) d ≡ Ok tt = ap (λ b. fields_of (explain_fields b) d)
    (asks_at es Receiver refl refl) ∙ fields_known (explain_fields true) es refl in
    fields_again value Receiver intent caller permission shown es k one two four refl refl refl refl refl known
    (text_field Any 1024 (codes "permission") value permission es k three refl refl)

pub explain_again : (value : Data) (r : Request) → IsKept value → explain_in value ≡ Ok r → explain_in (request_data r)
    ≡ Ok r
unfolding explain_in asked_with request_data
explain_again value r k h =
    let one = step (fields_of (explain_fields (asks_receivers value)) value) _ r h in
    let two = step (kind_of value) _ r one.later in
    let three = step (required_intent (codes "intent") value) _ r two.later in
    let four = step (optional_text Any 1024 (codes "as") value) _ r three.later in
    let five = step (permission_for two.value value) _ r four.later in
    let six = step (optional_text Any 1024 (codes "of") value) _ r five.later in
    let got = asks.Explain two.value three.value four.value five.value six.value in
    let P : Request → Type 0 = λ r. explain_in (request_data r) ≡ Ok r in
    subst P (same_ok got r six.later) (explain_of_again value two.value three.value four.value five.value six.value k
    three.first four.first five.first six.first)
