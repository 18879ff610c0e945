-- Broadcasts and answers: what was read of a body is read of what is written for it.
use Rattle.std.proofs.Common.{◌≡◌, ℕ, ℤ, Bool, true, false, List, [], ◌∷◌, Option, Some, None, option_map, Ok, refl, sym, ap, ◌∙◌, subst}
use Rattle.std.specs.Prelude.{codes, is_some}
use Rattle.serde_json.specs.Data.{Data, boolean, string, object}
use Rattle.am_types.specs.declared.broadcast.Ordered.{Ordered}
use Rattle.am_types.specs.declared.broadcast.Outcome.{Outcome}
use Rattle.am_types.specs.declared.intent.Intent.{Intent}
use Rattle.am_types.specs.declared.request.Request.{Request}
use Rattle.am_types.specs.declared.request.Request.TheVariants as asks
use Rattle.am_uri.specs.declared.text.Form.TheVariants.{Any}
use Rattle.am_wire_fields.specs.Fields.{unless_null, optional_truth}
use Rattle.am_wire_fields.specs.Numbers.{required_natural, required_whole, optional_whole}
use Rattle.am_wire_fields.specs.Texts.{optional_text}
use Rattle.am_wire_intents.specs.Extras.{optional_extras}
use Rattle.am_wire_intents.specs.Intents.{required_intent}
use Rattle.am_wire.specs.Activities.{fields_of}
use Rattle.am_wire.specs.Broadcasts.{is_true, truth_at, is_ordered, send_fields, or_zero, ordered_in, ordered_if, sent_with, send_in, sets_outcome, finish_fields, outcome_in, outcome_if, finish_in}
use Rattle.am_wire_values.specs.Fields.{natural, whole, some_whole, some_truth}
use Rattle.am_wire_values.specs.Intents.{intent_data, some_extras}
use Rattle.am_wire_values.specs.Requests.{with_outcome, with_ordered, send_data, finish_data, request_data}
use Rattle.am_wire_read_back.proofs.Extras.{extras_field}
use Rattle.am_wire_read_back.proofs.Intents.{required_intent_again}
use Rattle.am_wire_read_back.proofs.Kept.{IsKept}
use Rattle.am_wire_read_back.proofs.Numbers.{required_natural_again, required_whole_again, was_signed, some_whole_field}
use Rattle.am_wire_read_back.proofs.Objects.{Entry, members_with, value_at, are_apart, found_at, field_at}
use Rattle.am_wire_read_back.proofs.Parts.{fields_known}
use Rattle.am_wire_read_back.proofs.Steps.{step, steps, same_ok, some_is}
use Rattle.am_wire_read_back.proofs.Texts.{text_field, truth_field}

-- ---- broadcasts

-- the fields of a broadcast that isn't ordered
abbrev pub plain_entries : Intent → Option (List ℕ) → List Entry
plain_entries intent permission = (codes "permission", option_map string permission)
    ∷ (codes "intent", Some (intent_data intent)) ∷ []

-- the fields of an ordered broadcast
abbrev pub ordered_entries : Intent → Option (List ℕ) → Ordered → List Entry
ordered_entries intent permission ordered =
    (codes "result", some_truth ordered.wanted) ∷ (codes "code", some_whole ordered.initial.code)
    ∷ (codes "extras", some_extras ordered.initial.extras)
    ∷ (codes "data", option_map string ordered.initial.text) ∷ (codes "ordered", Some (boolean true))
    ∷ plain_entries intent permission

ordered_again : (value : Data) (o : Ordered) (es : List Entry) → IsKept value → ordered_in value ≡ Ok o → are_apart es
    ≡ true
    → value_at (codes "result") es ≡ some_truth o.wanted → value_at (codes "code") es ≡ some_whole o.initial.code
    → value_at (codes "extras") es ≡ some_extras o.initial.extras
    → value_at (codes "data") es ≡ option_map string o.initial.text → ordered_in (object (members_with es)) ≡ Ok o
unfolding ordered_in
ordered_again value o es k h apart wanted code extras text =
    let one = step (optional_whole (codes "code") value) _ o h in
    let two = step (optional_text Any 1024 (codes "data") value) _ o one.later in
    let three = step (optional_extras value) _ o two.later in
    let four = step (optional_truth (codes "result") value) _ o three.later in
    let got : Ordered = record {
      initial = record { code = or_zero one.value; text = two.value; extras = three.value };
      wanted = four.value;
    } in
    let is : got ≡ o = same_ok got o four.later in
    let number = some_whole_field (codes "code") (or_zero one.value) es
    (was_signed (codes "code") value one.value k one.first) apart
    (code ∙ ap (λ (o : Ordered). some_whole o.initial.code) (sym is)) in
    steps (optional_whole (codes "code") (object (members_with es))) _ number.said o number.read
    (steps (optional_text Any 1024 (codes "data") (object (members_with es))) _ two.value o
    (text_field Any 1024 (codes "data") value two.value es k two.first apart
    (text ∙ ap (λ (o : Ordered). option_map string o.initial.text) (sym is)))
    (steps (optional_extras (object (members_with es))) _ three.value o
    (extras_field value three.value es k three.first apart (extras
    ∙ ap (λ (o : Ordered). some_extras o.initial.extras) (sym is)))
    (steps (optional_truth (codes "result") (object (members_with es))) _ four.value o
    (truth_field (codes "result") four.value es apart (wanted ∙ ap (λ (o : Ordered). some_truth o.wanted) (sym is)))
    (ap (λ (z : ℤ). Ok (record {
      initial = record { code = z; text = two.value; extras = three.value };
      wanted =
          four.value;
    })) number.is ∙ ap Ok is))))

-- how a broadcast that is ordered starts was read
ordered_is : (b : Bool) (value : Data) (o : Ordered) → ordered_if b value ≡ Ok (Some o) → ordered_in value ≡ Ok o
unfolding ordered_if
ordered_is false value o h = absurd (cc)
ordered_is true value o h = some_is (ordered_in value) o h

is_plain : (es : List Entry) → are_apart es ≡ true → value_at (codes "ordered") es ≡ None
    → is_ordered (object (members_with es)) ≡ false
unfolding is_ordered
is_plain es apart is = ap (λ o. is_true (truth_at o)) (found_at (codes "ordered") es apart ∙ is)

is_so : (es : List Entry) → are_apart es ≡ true → value_at (codes "ordered") es ≡ Some (boolean true)
    → is_ordered (object (members_with es)) ≡ true
unfolding is_ordered
is_so es apart is = ap (λ o. is_true (truth_at o)) (found_at (codes "ordered") es apart ∙ is)

truth_is : (es : List Entry) (b : Bool) → are_apart es ≡ true → value_at (codes "ordered") es ≡ some_truth b
    → optional_truth (codes "ordered") (object (members_with es)) ≡ Ok b
truth_is es b apart is = truth_field (codes "ordered") b es apart is

-- a broadcast is read of fields that have its intent, its permission, whether it is ordered, and how it starts
sent_again : (value : Data) (intent : Intent) (permission : Option (List ℕ)) (b : Bool) (ordered : Option Ordered)
    (es : List Entry) → IsKept value → required_intent (codes "intent") value ≡ Ok intent
    → optional_text Any 1024 (codes "permission") value ≡ Ok permission → are_apart es ≡ true
    → value_at (codes "intent") es ≡ Some (intent_data intent)
    → value_at (codes "permission") es ≡ option_map string permission → value_at (codes "ordered") es ≡ some_truth b
    → fields_of (send_fields (is_ordered (object (members_with es)))) (object (members_with es)) ≡ Ok tt
    → ordered_if b (object (members_with es)) ≡ Ok ordered
    → send_in (object (members_with es)) ≡ Ok (asks.Send intent permission ordered)
unfolding send_in sent_with
sent_again value intent permission b ordered es k one two apart intent_at permission_at ordered_at known starts =
    let got = asks.Send intent permission ordered in
    steps (fields_of (send_fields (is_ordered (object (members_with es)))) (object (members_with es))) _ tt got known
    (steps (required_intent (codes "intent") (object (members_with es))) _ intent got
    (required_intent_again (codes "intent") value intent es k one apart intent_at)
    (steps (optional_text Any 1024 (codes "permission") (object (members_with es))) _ permission got
    (text_field Any 1024 (codes "permission") value permission es k two apart permission_at)
    (steps (optional_truth (codes "ordered") (object (members_with es))) _ b got (truth_is es b apart ordered_at)
    (steps (ordered_if b (object (members_with es))) _ ordered got starts refl))))

send_of_again : (value : Data) (intent : Intent) (permission : Option (List ℕ)) (b : Bool) (ordered : Option Ordered)
    → IsKept value
    → required_intent (codes "intent") value ≡ Ok intent → optional_text Any 1024 (codes "permission") value
    ≡ Ok permission → ordered_if b value ≡ Ok ordered
    → send_in (send_data intent permission ordered) ≡ Ok (asks.Send intent permission ordered)
unfolding send_data with_ordered with_outcome send_fields ordered_if
send_of_again value intent permission b None k one two three =
    let es = plain_entries intent permission in
    sent_again value intent permission false None es k one two refl refl refl refl
    (ap (λ b. fields_of (send_fields b) (object (members_with es))) (is_plain es refl refl)
    ∙ fields_known (send_fields false) es refl) refl
send_of_again value intent permission b (Some o) k one two three =
    let es = ordered_entries intent permission o in
    sent_again value intent permission true (Some o) es k one two refl refl refl refl
    (ap (λ b. fields_of (send_fields b) (object (members_with es))) (is_so es refl refl)
    ∙ fields_known (send_fields true) es refl)
    (steps (ordered_in (object (members_with es))) (λ ordered. Ok (Some ordered)) o (Some o)
    (ordered_again value o es k (ordered_is b value o three) refl refl refl refl refl) refl)

pub send_again : (value : Data) (r : Request) → IsKept value → send_in value ≡ Ok r → send_in (request_data r) ≡ Ok r
unfolding send_in sent_with request_data
send_again value r k h =
    let one = step (fields_of (send_fields (is_ordered value)) value) _ r h in
    let two = step (required_intent (codes "intent") value) _ r one.later in
    let three = step (optional_text Any 1024 (codes "permission") value) _ r two.later in
    let four = step (optional_truth (codes "ordered") value) _ r three.later in
    let five = step (ordered_if four.value value) _ r four.later in
    let got = asks.Send two.value three.value five.value in
    let P : Request → Type 0 = λ r. send_in (request_data r) ≡ Ok r in
    subst P (same_ok got r five.later) (send_of_again value two.value three.value four.value five.value k two.first
    three.first five.first)

-- ---- answers

-- the fields of an answer that sets no outcome
abbrev pub answer_entries : ℕ → Bool → List Entry
answer_entries delivery abort = (codes "abort", some_truth abort) ∷ (codes "delivery", Some (natural delivery)) ∷ []

-- the fields of an answer that sets one
abbrev pub outcome_entries : ℕ → Bool → Outcome → List Entry
outcome_entries delivery abort outcome =
    (codes "extras", some_extras outcome.extras) ∷ (codes "data", option_map string outcome.text)
    ∷ (codes "code", Some (whole outcome.code)) ∷ answer_entries delivery abort

outcome_again : (value : Data) (o : Outcome) (es : List Entry) → IsKept value → outcome_in value ≡ Ok o → are_apart es
    ≡ true
    → value_at (codes "code") es ≡ Some (whole o.code) → value_at (codes "extras") es ≡ some_extras o.extras
    → value_at (codes "data") es ≡ option_map string o.text
    → outcome_in (object (members_with es)) ≡ Ok o
unfolding outcome_in
outcome_again value o es k h apart code extras text =
    let one = step (required_whole (codes "code") value) _ o h in
    let two = step (optional_text Any 1024 (codes "data") value) _ o one.later in
    let three = step (optional_extras value) _ o two.later in
    let got : Outcome = record { code = one.value; text = two.value; extras = three.value } in
    let is : got ≡ o = same_ok got o three.later in
    steps (required_whole (codes "code") (object (members_with es))) _ one.value o
    (required_whole_again (codes "code") value one.value es k one.first apart
    (code ∙ ap (λ (o : Outcome). Some (whole o.code)) (sym is)))
    (steps (optional_text Any 1024 (codes "data") (object (members_with es))) _ two.value o
    (text_field Any 1024 (codes "data") value two.value es k two.first apart
    (text ∙ ap (λ (o : Outcome). option_map string o.text) (sym is)))
    (steps (optional_extras (object (members_with es))) _ three.value o
    (extras_field value three.value es k three.first apart (extras
    ∙ ap (λ (o : Outcome). some_extras o.extras) (sym is))) (ap Ok is)))

outcome_is : (b : Bool) (value : Data) (o : Outcome) → outcome_if b value ≡ Ok (Some o) → outcome_in value ≡ Ok o
unfolding outcome_if
outcome_is false value o h = absurd (cc)
outcome_is true value o h = some_is (outcome_in value) o h

sets : (es : List Entry) (o : Option Data) → are_apart es ≡ true → value_at (codes "code") es ≡ o
    → sets_outcome (object (members_with es)) ≡ is_some (unless_null o)
unfolding sets_outcome
sets es o apart is = ap is_some (field_at (codes "code") es apart ∙ ap unless_null is)

finish_of_again : (value : Data) (delivery : ℕ) (abort b : Bool) (set : Option Outcome) → IsKept value
    → required_natural (codes "delivery") value ≡ Ok delivery → outcome_if b value ≡ Ok set
    → finish_in (finish_data delivery (record { set = set; abort = abort }))
    ≡ Ok (asks.Finish delivery (record { set = set; abort = abort }))
unfolding finish_in finish_data with_outcome finish_fields outcome_if
finish_of_again value delivery abort b None k one three =
    let es = answer_entries delivery abort in
    let d = object (members_with es) in
    let got = asks.Finish delivery (record { set = None; abort = abort }) in
    let none : sets_outcome d ≡ false = sets es None refl refl in
    steps (fields_of (finish_fields (sets_outcome d)) d) _ tt got (ap (λ b. fields_of (finish_fields b) d) none
    ∙ fields_known (finish_fields false) es refl)
    (steps (required_natural (codes "delivery") d) _ delivery got (required_natural_again (codes "delivery") value
    delivery es k one refl refl)
    (steps (optional_truth (codes "abort") d) _ abort got (truth_field (codes "abort") abort es refl refl)
    (steps (outcome_if (sets_outcome d) d) _ None got (ap (λ b. outcome_if b d) none) refl)))
finish_of_again value delivery abort b (Some o) k one three =
    let es = outcome_entries delivery abort o in
    let d = object (members_with es) in
    let got = asks.Finish delivery (record { set = Some o; abort = abort }) in
    let some : sets_outcome d ≡ true = sets es (Some (whole o.code)) refl refl in
    steps (fields_of (finish_fields (sets_outcome d)) d) _ tt got (ap (λ b. fields_of (finish_fields b) d) some
    ∙ fields_known (finish_fields true) es refl)
    (steps (required_natural (codes "delivery") d) _ delivery got (required_natural_again (codes "delivery") value
    delivery es k one refl refl)
    (steps (optional_truth (codes "abort") d) _ abort got (truth_field (codes "abort") abort es refl refl)
    (steps (outcome_if (sets_outcome d) d) _ (Some o) got (ap (λ b. outcome_if b d) some
    ∙ steps (outcome_in d) (λ outcome. Ok (Some outcome)) o (Some o)
    (outcome_again value o es k (outcome_is b value o three) refl refl refl refl) refl) refl)))

pub finish_again : (value : Data) (r : Request) → IsKept value → finish_in value ≡ Ok r → finish_in (request_data r)
    ≡ Ok r
unfolding finish_in request_data
finish_again value r k h =
    let one = step (fields_of (finish_fields (sets_outcome value)) value) _ r h in
    let two = step (required_natural (codes "delivery") value) _ r one.later in
    let three = step (optional_truth (codes "abort") value) _ r two.later in
    let four = step (outcome_if (sets_outcome value) value) _ r three.later in
    let got = asks.Finish two.value (record { set = four.value; abort = three.value }) in
    let P : Request → Type 0 = λ r. finish_in (request_data r) ≡ Ok r in
    subst P (same_ok got r four.later) (finish_of_again value two.value three.value (sets_outcome value) four.value k
    two.first four.first)
