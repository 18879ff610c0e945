-- A filter: what was read from a value is read from what is written for it, if that has few rows.
use Rattle.std.proofs.Common.{◌≡◌, ℕ, ◌≤◌, ◌<◌, ℤ, pos, negsuc, Bool, true, false, cond, List, [], ◌∷◌, ◌++◌, length, map, fold, Option, Some, None, option_map, option_and_then, Ok, nat_cmp, Ordering, Less, Equal, Greater, refl, sym, ap, ◌∙◌, subst, arith}
use Rattle.std.specs.Prelude.{codes, nat_lt, unsigned_abs, ◌==◌, int_lt}
use Rattle.std.specs.BTreeSet.{insert_key}
use Rattle.std.specs.Cmp.Lexicographic.{slice_cmp}
use Rattle.std.specs.Ordering.{match_ordering}
use Rattle.std.proofs.lemmas.List.{length-append}
use Rattle.std.proofs.lemmas.Bool.Decides.{Decides-ltb}
use Rattle.serde_json.specs.Data.{Data, string, object}
use Rattle.serde_json.specs.Find.{as_number, as_i64}
use Rattle.am_types.specs.declared.filter.Filter.{Filter}
use Rattle.am_types.specs.declared.request.Request.{Request}
use Rattle.am_types.specs.declared.request.Request.TheVariants as asks
use Rattle.am_filter.specs.declared.rows.DataRows.{DataRows}
use Rattle.am_uri.specs.declared.text.Form.TheVariants.{Any, Filled}
use Rattle.am_filter.specs.Rows.{with_row, no_rows}
use Rattle.am_uri.specs.Texts.{with_text, sorted_texts}
use Rattle.am_wire_fields.specs.declared.fault.WireFault.TheVariants.{WrongKind}
use Rattle.am_wire_fields.specs.Fields.{unless_null, field, only_fields, required}
use Rattle.am_wire_fields.specs.Lists.{list_in, list_if_said, optional_list, texts_in, each}
use Rattle.am_wire_fields.specs.Texts.{text_in, optional_text}
use Rattle.am_wire_intents.specs.Filters.{row_in, rows_at, some_values, actions_at, priority_of, priority_if_said, priority_at, filter_of, filter_fields, filter_in}
use Rattle.am_wire_intents.specs.Intents.{categories_of}
use Rattle.am_wire.specs.Activities.{fields_of}
use Rattle.am_wire.specs.Broadcasts.{register_in, required_filter}
use Rattle.am_wire_values.specs.Fields.{whole, some_whole, some_listed, texts_data, some_texts}
use Rattle.am_wire_values.specs.Filters.{scheme_row, authority_row, path_row, type_row, rows_of, filter_data}
use Rattle.am_wire_values.specs.Requests.{register_data, request_data}
use Rattle.am_wire_read_back.specs.Written.{rows_in, HasFewRows}
use Rattle.am_wire_read_back.proofs.Intents.{AreRead, sorted_are_read, categories_again}
use Rattle.am_wire_read_back.proofs.Kept.{IsKept, ForSome, field_kept}
use Rattle.am_wire_read_back.proofs.Lists.{WasListed, was_list, was_list_if, list_again, list_if_again, each_length, mapped_length}
use Rattle.am_wire_read_back.proofs.Merged.{rows_said, listed_by, merged_again, each_row_again}
use Rattle.am_wire_read_back.proofs.Numbers.{is_zero, IsSigned, signed_of, number_kept}
use Rattle.am_wire_read_back.proofs.Objects.{Entry, members_with, value_at, are_apart, field_at, only_listed}
use Rattle.am_wire_read_back.proofs.Parts.{fields_known}
use Rattle.am_wire_read_back.proofs.Rows.{ReadRows, rows_read, merged_read}
use Rattle.am_wire_read_back.proofs.Steps.{step, steps, same_ok}
use Rattle.am_wire_read_back.proofs.Texts.{else_read, required_kept, required_at, text_field}

-- ---- actions

-- a list that is not empty
abbrev pub IsFilled : {A : Type 0} → List A → Type 0
IsFilled [] = ⊥
IsFilled (x ∷ xs) = Unit {0}

put_filled : (ks : List (List ℕ)) (k : List ℕ) → IsFilled (with_text ks k)
put_filled [] k = tt
put_filled (x ∷ xs) k = by (slice_cmp nat_cmp k x)
  where
    by : (r : Ordering) → IsFilled (match_ordering r (k ∷ x ∷ xs) (x ∷ xs) (x ∷ insert_key (slice_cmp nat_cmp) xs k))
    by Less = tt
    by Equal = tt
    by Greater = tt

stays_filled : (front texts : List (List ℕ)) → IsFilled front → IsFilled (fold with_text front texts)
stays_filled front [] h = h
stays_filled front (x ∷ xs) h = stays_filled (with_text front x) xs (put_filled front x)

sorted_filled : (texts : List (List ℕ)) → IsFilled texts → IsFilled (sorted_texts texts)
sorted_filled [] h = absurd h
sorted_filled (x ∷ xs) h = stays_filled (with_text [] x) xs (put_filled [] x)

some_is : (values got : List Data) → some_values values ≡ Ok got → (values ≡ got) × IsFilled values
unfolding some_values
some_is [] got h = absurd (cc)
some_is (v ∷ vs) got h = (same_ok (v ∷ vs) got h, tt)

some_again : (texts : List (List ℕ)) → IsFilled texts → some_values (map string texts) ≡ Ok (map string texts)
unfolding some_values
some_again [] h = absurd h
some_again (t ∷ ts) h = refl

as_filled : {A B : Type 0} (xs : List A) (ys : List B) → length xs ≡ length ys → IsFilled ys → IsFilled xs
as_filled [] [] e h = absurd h
as_filled [] (y ∷ ys) e h = absurd (omega arith)
as_filled (x ∷ xs) ys e h = tt

actions_again : (value : Data) (actions : List (List ℕ)) (es : List Entry) → IsKept value → actions_at value
    ≡ Ok actions → are_apart es ≡ true → value_at (codes "actions") es ≡ Some (texts_data actions)
    → actions_at (object (members_with es)) ≡ Ok actions
unfolding actions_at texts_in
actions_again value actions es k h apart is =
    let one = step (required (codes "actions") value) _ actions h in
    let two = step (list_in (codes "actions") one.value) _ actions one.later in
    let three = step (some_values two.value) _ actions two.later in
    let four = step (texts_in Filled (codes "actions") three.value) _ actions three.later in
    let some = some_is two.value three.value three.first in
    let listed : WasListed three.value = subst WasListed some.0 (was_list (codes "actions") one.value two.value
    (required_kept (codes "actions") value one.value k one.first) two.first) in
    let r : AreRead Filled (codes "actions") (sorted_texts four.value) = sorted_are_read Filled (codes "actions")
    three.value four.value listed four.first in
    let filled : IsFilled (sorted_texts four.value) = sorted_filled four.value
    (as_filled four.value three.value (each_length (text_in Filled 1024 (codes "actions")) three.value four.value
    four.first) (subst IsFilled some.0 some.1)) in
    let same : sorted_texts four.value ≡ actions = same_ok _ actions four.later in
    again (object (members_with es)) actions (required_at (codes "actions") es (texts_data actions) apart is refl)
    (subst (AreRead Filled (codes "actions")) same r) (subst IsFilled same filled)
  where
    again : (d : Data) (actions : List (List ℕ)) → required (codes "actions") d ≡ Ok (texts_data actions)
        → AreRead Filled (codes "actions") actions → IsFilled actions → actions_at d ≡ Ok actions
    again d actions there r filled =
        steps (required (codes "actions") d) _ (texts_data actions) actions there
        (steps (list_in (codes "actions") (texts_data actions)) _ (map string actions) actions
        (list_again (codes "actions") (map string actions) r.within)
        (steps (some_values (map string actions)) _ (map string actions) actions (some_again actions filled)
        (steps (texts_in Filled (codes "actions") (map string actions)) _ actions actions r.read (ap Ok r.sorted))))

-- ---- the priority

-- a priority that is read again
record IsPriority (z : ℤ) : Type 0 where
  signed : IsSigned z
  within : priority_of (Some z) ≡ Ok z

priority_is : (z got : ℤ) → priority_of (Some z) ≡ Ok got → z ≡ got
unfolding priority_of
priority_is z got h =
    let low = else_read (int_lt z (negsuc 2147483647)) (WrongKind (codes "priority")) _ got h in
    let high = else_read (int_lt (pos 2147483647) z) (WrongKind (codes "priority")) (Ok z) got low.1 in
    same_ok z got high.1

zero_priority : IsPriority (pos 0)
unfolding priority_of
zero_priority = record { signed = refl; within = refl }

some_of : (o : Option ℤ) (z : ℤ) → priority_of o ≡ Ok z → (o ≡ Some z) × (priority_of (Some z) ≡ Ok z)
unfolding priority_of
some_of None z h = absurd (cc)
some_of (Some said) z h =
    let same = priority_is said z h in
    let P : ℤ → Type 0 = λ w. priority_of (Some w) ≡ Ok z in
    (ap Some same, subst P same h)

priority_if : (value : Option Data) (z : ℤ) → ForSome IsKept value → priority_if_said value ≡ Ok z → IsPriority z
unfolding priority_if_said
priority_if None z k h = subst IsPriority (same_ok (pos 0) z h) zero_priority
priority_if (Some value) z k h =
    let both = some_of (option_and_then as_i64 (as_number value)) z h in
    record { signed = signed_of (as_number value) z (number_kept value k) both.0; within = both.1 }

priority_by : (b : Bool) (z : ℤ) → (unsigned_abs z == 0) ≡ b → IsPriority z
    → priority_if_said (unless_null (cond b None (Some (whole z)))) ≡ Ok z
unfolding priority_if_said
priority_by true z e p = ap Ok (is_zero z e)
priority_by false z e p = ap priority_of p.signed ∙ p.within

priority_again : (value : Data) (z : ℤ) (es : List Entry) → IsKept value → priority_at value ≡ Ok z → are_apart es
    ≡ true → value_at (codes "priority") es ≡ some_whole z → priority_at (object (members_with es)) ≡ Ok z
unfolding priority_at
priority_again value z es k h apart is =
    ap priority_if_said (field_at (codes "priority") es apart ∙ ap unless_null is)
    ∙ priority_by (unsigned_abs z == 0) z refl (priority_if (field (codes "priority") value) z
    (field_kept (codes "priority") value k) h)

-- ---- the rows

rows_length : (f : Filter) → length (rows_of f) ≡ rows_in f
unfolding rows_of
rows_length f =
    let ss = map scheme_row f.schemes in
    let auths = map authority_row f.authorities in
    let ps = map path_row f.paths in
    omega (
      arith,
      length-append ((ss ++ auths) ++ ps) (map type_row f.types),
      length-append (ss ++ auths) ps,
      length-append ss auths,
      mapped_length scheme_row f.schemes,
      mapped_length authority_row f.authorities,
      mapped_length path_row f.paths,
      mapped_length type_row f.types,
    )

few_rows : (f : Filter) → rows_in f ≤ 64 → nat_lt 64 (length (rows_of f)) ≡ false
few_rows f h = by (nat_lt 64 (length (rows_of f))) refl
  where
    by : (b : Bool) → nat_lt 64 (length (rows_of f)) ≡ b → b ≡ false
    by true e = let more : 64 < length (rows_of f) = (Decides-ltb 64 (length (rows_of f))).0 e in absurd
        (omega (arith, rows_length f))
    by false e = refl

rows_were : (value : Data) (rows : DataRows) → IsKept value → rows_at value ≡ Ok rows → ReadRows rows
unfolding rows_at optional_list
rows_were value rows k h =
    let one = step (list_if_said (codes "data") (field (codes "data") value)) _ rows h in
    let two = step (each row_in one.value) _ rows one.later in
    let listed = was_list_if (codes "data") (field (codes "data") value) one.value (field_kept (codes "data") value k)
    one.first in
    subst ReadRows (same_ok (fold with_row no_rows two.value) rows two.later)
    (merged_read two.value (rows_read one.value two.value listed.kept two.first))

rows_again : (f : Filter) (es : List Entry) → ReadRows (listed_by f) → rows_in f ≤ 64 → are_apart es ≡ true
    → value_at (codes "data") es ≡ some_listed (rows_of f) → rows_at (object (members_with es)) ≡ Ok (listed_by f)
unfolding rows_at optional_list
rows_again f es r few apart is =
    steps (list_if_said (codes "data") (field (codes "data") (object (members_with es)))) _ (rows_of f) (listed_by f)
    (ap (list_if_said (codes "data")) (field_at (codes "data") es apart ∙ ap unless_null is)
    ∙ list_if_again (codes "data") (rows_of f) (few_rows f few))
    (steps (each row_in (rows_of f)) _ (rows_said f) (listed_by f) (each_row_again f r) (ap Ok (merged_again f r)))

-- ---- the filter

unfoldable pub filter_entries : Filter → List Entry
filter_entries f =
    (codes "priority", some_whole f.priority) ∷ (codes "data", some_listed (rows_of f))
    ∷ (codes "categories", some_texts f.categories) ∷ (codes "actions", Some (texts_data f.actions)) ∷ []

pub filter_is : (f : Filter) → filter_data f ≡ object (members_with (filter_entries f))
unfolding filter_data filter_entries
filter_is f = refl

filter_of_again : (value : Data) (f : Filter) → IsKept value → filter_of value ≡ Ok f → rows_in f ≤ 64
    → filter_of (object (members_with (filter_entries f))) ≡ Ok f
unfolding filter_of filter_entries
filter_of_again value f k h few =
    let es = filter_entries f in
    let d = object (members_with es) in
    let one = step (actions_at value) _ f h in
    let two = step (categories_of Filled value) _ f one.later in
    let three = step (rows_at value) _ f two.later in
    let four = step (priority_at value) _ f three.later in
    let got : Filter = record {
      actions = one.value;
      categories = two.value;
      schemes = three.value.schemes;
      authorities = three.value.authorities;
      paths = three.value.paths;
      types = three.value.types;
      priority = four.value;
    } in
    let is : got ≡ f = same_ok got f four.later in
    let read : ReadRows (listed_by f) = subst ReadRows (ap listed_by is) (rows_were value three.value k three.first) in
    let rows : listed_by f ≡ three.value = ap listed_by (sym is) in
    steps (actions_at d) _ one.value f (actions_again value one.value es k one.first refl
    (ap (λ (f : Filter). Some (texts_data f.actions)) (sym is)))
    (steps (categories_of Filled d) _ two.value f (categories_again Filled value two.value es k two.first refl
    (ap (λ (f : Filter). some_texts f.categories) (sym is)))
    (steps (rows_at d) _ three.value f (rows_again f es read few refl refl ∙ ap Ok rows)
    (steps (priority_at d) _ four.value f (priority_again value four.value es k four.first refl
    (ap (λ (f : Filter). some_whole f.priority) (sym is))) (ap Ok is))))

fields_listed : (f : Filter) (name : List ℕ) → only_fields name filter_fields (object (members_with (filter_entries f)))
    ≡ Ok tt
unfolding filter_entries
fields_listed f name = only_listed name filter_fields (filter_entries f) refl

filter_again : (name : List ℕ) (value : Data) (f : Filter) → IsKept value → filter_in name value ≡ Ok f → rows_in f ≤ 64
    → filter_in name (filter_data f) ≡ Ok f
unfolding filter_in
filter_again name value f k h few =
    let one = step (only_fields name filter_fields value) (λ known. filter_of value) f h in
    ap (filter_in name) (filter_is f)
    ∙ steps (only_fields name filter_fields (object (members_with (filter_entries f))))
    (λ known. filter_of (object (members_with (filter_entries f)))) tt f (fields_listed f name)
    (filter_of_again value f k one.later few)

no_null : (f : Filter) → unless_null (Some (filter_data f)) ≡ Some (filter_data f)
unfolding filter_data
no_null f = refl

filter_field : (parent : Data) (f : Filter) (es : List Entry) → IsKept parent → required_filter (codes "filter") parent
    ≡ Ok f → rows_in f ≤ 64
    → are_apart es ≡ true → value_at (codes "filter") es ≡ Some (filter_data f)
    → required_filter (codes "filter") (object (members_with es)) ≡ Ok f
unfolding required_filter
filter_field parent f es k h few apart is =
    let s = step (required (codes "filter") parent) (filter_in (codes "filter")) f h in
    steps (required (codes "filter") (object (members_with es))) (filter_in (codes "filter")) (filter_data f) f
    (required_at (codes "filter") es (filter_data f) apart is (no_null f))
    (filter_again (codes "filter") s.value f (required_kept (codes "filter") parent s.value k s.first) s.later few)

pub register_again : (value : Data) (r : Request) → IsKept value → register_in value ≡ Ok r → HasFewRows r
    → register_in (request_data r) ≡ Ok r
unfolding register_in request_data register_data
register_again value r k h =
    let fields = codes "filter" ∷ codes "permission" ∷ [] in
    let one = step (fields_of fields value) _ r h in
    let two = step (required_filter (codes "filter") value) _ r one.later in
    let three = step (optional_text Any 1024 (codes "permission") value) _ r two.later in
    let got = asks.Register two.value three.value in
    let es : List Entry = (codes "permission", option_map string three.value)
    ∷ (codes "filter", Some (filter_data two.value)) ∷ [] in
    let P : Request → Type 0 = λ r. HasFewRows r → register_in (request_data r) ≡ Ok r in
    subst P (same_ok got r three.later)
    (λ few. steps (fields_of fields (object (members_with es))) _ tt got (fields_known fields es refl)
    (steps (required_filter (codes "filter") (object (members_with es))) _ two.value got
    (filter_field value two.value es k two.first few refl refl)
    (steps (optional_text Any 1024 (codes "permission") (object (members_with es))) _ three.value got
    (text_field Any 1024 (codes "permission") value three.value es k three.first refl refl) refl)))
