-- An intent: what was read of a value is read of what is written for it.
use Rattle.std.proofs.Common.{◌≡◌, ℕ, true, false, List, [], ◌∷◌, length, map, Option, Some, option_map, Ok, refl, sym, ap, ◌∙◌, subst}
use Rattle.std.specs.Prelude.{codes, nat_lt}
use Rattle.serde_json.specs.Data.{Data, string, object}
use Rattle.am_types.specs.declared.intent.Intent.{Intent}
use Rattle.am_uri.specs.declared.text.Form.{Form}
use Rattle.am_uri.specs.declared.text.Form.TheVariants.{Any}
use Rattle.am_uri.specs.Texts.{sorted_texts}
use Rattle.am_wire_fields.specs.Fields.{unless_null, field, only_fields}
use Rattle.am_wire_fields.specs.Lists.{list_if_said, optional_list, texts_in, optional_texts}
use Rattle.am_types.specs.Reading.{◌>>=◌}
use Rattle.am_wire_fields.specs.Texts.{text_in}
use Rattle.am_wire_intents.specs.Flags.{flags_of}
use Rattle.am_wire_intents.specs.Intents.{categories_of, intent_of, intent_fields, intent_in, required_intent, optional_intent}
use Rattle.am_wire_values.specs.Fields.{some_texts}
use Rattle.am_wire_values.specs.Intents.{component_data, mime_data, uri_data, some_extras, intent_data}
use Rattle.am_wire_values.specs.Names.{names_set, flags_named}
use Rattle.am_wire_read_back.proofs.Components.{component_field, mime_field, uri_field}
use Rattle.am_wire_read_back.proofs.Extras.{extras_field}
use Rattle.am_wire_read_back.proofs.Flags.{flags_field}
use Rattle.am_wire_read_back.proofs.Kept.{IsKept, field_kept}
use Rattle.am_wire_read_back.proofs.Lists.{IsRead, each_read, each_again, each_length, WasListed, was_list_if, list_if_again, all_sorted, are_sorted, sorted_again, mapped_within}
use Rattle.am_wire_read_back.proofs.Objects.{Entry, members_with, value_at, are_apart, field_at, only_listed}
use Rattle.am_wire_read_back.proofs.Options.{IsFieldReread, IsReread, WritesNoNull, option_field}
use Rattle.am_wire_read_back.proofs.Steps.{step, steps, same_ok}
use Rattle.am_wire_read_back.proofs.Texts.{text_again, text_field, field_again}

-- ---- optional sorted texts

-- texts in order that are read again, and few enough
pub record AreRead (form : Form) (name : List ℕ) (texts : List (List ℕ)) : Type 0 where
  pub read : texts_in form name (map string texts) ≡ Ok texts
  pub within : nat_lt 64 (length (map string texts)) ≡ false
  pub sorted : sorted_texts texts ≡ texts

-- texts that were read are read again if they are sorted
pub sorted_are_read : (form : Form) (name : List ℕ) (values : List Data) (texts : List (List ℕ)) → WasListed values
    → texts_in form name values ≡ Ok texts → AreRead form name (sorted_texts texts)
unfolding texts_in
sorted_are_read form name values texts listed h =
    let all = all_sorted (IsRead (text_in form 1024 name) string) texts
    (each_read (text_in form 1024 name) string (text_again form 1024 name) values texts listed.kept h) in
    record {
      read = each_again (text_in form 1024 name) string (sorted_texts texts) all;
      within = mapped_within texts values (each_length (text_in form 1024 name) values texts h) listed.within;
      sorted = sorted_again (sorted_texts texts) (are_sorted texts);
    }

optional_are_read : (form : Form) (name : List ℕ) (value : Data) (texts : List (List ℕ)) → IsKept value
    → optional_texts form name value ≡ Ok texts → AreRead form name (sorted_texts texts)
unfolding optional_texts optional_list
optional_are_read form name value texts k h =
    let one = step (list_if_said name (field name value)) (λ values. texts_in form name values) texts h in
    sorted_are_read form name one.value texts (was_list_if name (field name value) one.value (field_kept name value k)
    one.first) one.later

texts_field : (form : Form) (name : List ℕ) (texts : List (List ℕ)) (es : List Entry) → AreRead form name texts
    → are_apart es ≡ true → value_at name es ≡ some_texts texts
    → (optional_texts form name (object (members_with es)) >>= λ texts. Ok (sorted_texts texts)) ≡ Ok texts
unfolding optional_texts optional_list
texts_field form name texts es r apart is =
    steps (optional_texts form name (object (members_with es))) (λ texts. Ok (sorted_texts texts)) texts texts
    (steps (list_if_said name (field name (object (members_with es)))) (λ values. texts_in form name values)
    (map string texts) texts
    (ap (list_if_said name) (field_at name es apart ∙ ap unless_null is)
    ∙ list_if_again name (map string texts) r.within) r.read)
    (ap Ok r.sorted)

pub categories_again : (form : Form) (value : Data) (texts : List (List ℕ)) (es : List Entry) → IsKept value
    → categories_of form value ≡ Ok texts
    → are_apart es ≡ true → value_at (codes "categories") es ≡ some_texts texts
    → categories_of form (object (members_with es)) ≡ Ok texts
unfolding categories_of
categories_again form value texts es k h apart is =
    let one = step (optional_texts form (codes "categories") value) (λ texts. Ok (sorted_texts texts)) texts h in
    let P : List (List ℕ) → Type 0 = AreRead form (codes "categories") in
    texts_field form (codes "categories") texts es (subst P (same_ok (sorted_texts one.value) texts one.later)
    (optional_are_read form (codes "categories") value one.value k one.first)) apart is

-- ---- an intent

-- the fields that are written for an intent
unfoldable pub intent_entries : Intent → List Entry
intent_entries i =
    (codes "flags", some_texts (names_set (flags_named i.flags))) ∷ (codes "extras", some_extras i.extras)
    ∷ (codes "package", option_map string i.«package»)
    ∷ (codes "identifier", option_map string i.identifier) ∷ (codes "component", option_map component_data i.component)
    ∷ (codes "type", option_map mime_data i.mime)
    ∷ (codes "data", option_map uri_data i.uri) ∷ (codes "categories", some_texts i.categories)
    ∷ (codes "action", option_map string i.action) ∷ []

pub intent_is : (i : Intent) → intent_data i ≡ object (members_with (intent_entries i))
unfolding intent_data intent_entries
intent_is i = refl

fields_listed : (i : Intent) (name : List ℕ) → only_fields name intent_fields (object (members_with (intent_entries i)))
    ≡ Ok tt
unfolding intent_entries
fields_listed i name = only_listed name intent_fields (intent_entries i) refl

-- an intent is read of what is written for it
pub intent_again : (name : List ℕ) → IsReread (intent_in name) intent_data
unfolding intent_in intent_of intent_entries
intent_again name value i k h =
    let known = step (only_fields name intent_fields value) _ i h in
    let one = step _ _ i known.later in
    let two = step _ _ i one.later in
    let three = step _ _ i two.later in
    let four = step _ _ i three.later in
    let five = step _ _ i four.later in
    let six = step (flags_of value) _ i five.later in
    let seven = step _ _ i six.later in
    let eight = step _ _ i seven.later in
    let nine = step _ _ i eight.later in
    let is = same_ok _ i nine.later in
    let es = intent_entries i in
    let flags : six.value ≡ i.flags = ap (λ (i : Intent). i.flags) is in
    ap (intent_in name) (intent_is i)
    ∙ steps _ _ tt i (fields_listed i name)
    (steps _ _ one.value i (text_field Any 1024 (codes "action") value one.value es k one.first refl
    (ap (λ (i : Intent). option_map string i.action) (sym is)))
    (steps _ _ two.value i (categories_again Any value two.value es k two.first refl
    (ap (λ (i : Intent). some_texts i.categories) (sym is)))
    (steps _ _ three.value i (component_field (codes "component") value three.value es k three.first refl
    (ap (λ (i : Intent). option_map component_data i.component) (sym is)))
    (steps _ _ four.value i (uri_field (codes "data") value four.value es k four.first refl
    (ap (λ (i : Intent). option_map uri_data i.uri) (sym is)))
    (steps _ _ five.value i (extras_field value five.value es k five.first refl
    (ap (λ (i : Intent). some_extras i.extras) (sym is)))
    (steps _ _ six.value i (flags_field six.value es refl (ap (λ f. some_texts (names_set (flags_named f)))
    (sym flags)))
    (steps _ _ seven.value i (text_field Any 1024 (codes "identifier") value seven.value es k seven.first refl
    (ap (λ (i : Intent). option_map string i.identifier) (sym is)))
    (steps _ _ eight.value i (text_field Any 1024 (codes "package") value eight.value es k eight.first refl
    (ap (λ (i : Intent). option_map string i.«package») (sym is)))
    (steps _ _ nine.value i (mime_field (codes "type") value nine.value es k nine.first refl
    (ap (λ (i : Intent). option_map mime_data i.mime) (sym is)))
    nine.later)))))))))

pub no_null : WritesNoNull intent_data
unfolding intent_data
no_null i = refl

pub required_intent_again : (name : List ℕ)
    → IsFieldReread name (required_intent name) (λ i. Some (intent_data i))
unfolding required_intent
required_intent_again name = field_again (intent_in name) intent_data (intent_again name) no_null name

pub intent_field : (name : List ℕ) → IsFieldReread name (optional_intent name) (option_map intent_data)
unfolding optional_intent
intent_field name = option_field (intent_in name) intent_data (intent_again name) no_null name
