-- A filter that lists more passes more.
use Rattle.std.proofs.Common.{◌≡◌, ℕ, Bool, true, false, not, ◌&&◌, ◌||◌, List, [], ◌∷◌, ◌++◌, Option, Some, None, is_none, refl, sym, ap, ◌∙◌}
use Rattle.std.specs.List.{list_any, list_all}
use Rattle.am_types.specs.declared.device.Rules.{Rules}
use Rattle.am_types.specs.declared.device.Rules.TheVariants.{Profile, Android12}
use Rattle.am_types.specs.declared.intent.Intent.{Intent}
use Rattle.am_types.specs.declared.uri.Uri.{Uri}
use Rattle.am_types.specs.declared.uri.Mime.{Mime}
use Rattle.am_types.specs.declared.filter.Filter.{Filter}
use Rattle.am_types.specs.declared.filter.Why.{Why}
use Rattle.am_types.specs.declared.filter.Why.TheVariants.{Action, Scheme, Type_, Category}
use Rattle.am_model.specs.Texts.{is_same, lists}
use Rattle.am_model.specs.MimeTypes.{goes_with, passes_type}
use Rattle.am_model.specs.Filters.{default_category, is_empty, unless, or_else, passes_action, passes_categories, uri_why, typed_uri_why, data_why, passes}

or_true : (first second : Bool) → second ≡ true → first || second ≡ true
or_true true second held = refl
or_true false second held = held

either_to : (first less more : Bool) → (less ≡ true → more ≡ true) → first || less ≡ true → first || more ≡ true
either_to true less more to held = refl
either_to false less more to held = to held

one_answer : (b : Bool) → b ≡ true → b ≡ false → ⊥
one_answer b first second = cc

-- a test on one of a list's items holds of a longer list too
any_of_more : {X : Type 0} (test : X → Bool) (before after : List X) (one : X) → list_any test (before ++ after) ≡ true
    → list_any test (before ++ one ∷ after) ≡ true
any_of_more test [] after one held = or_true (test one) _ held
any_of_more test (first ∷ before) after one held = either_to (test first) _ _ (any_of_more test before after one) held

both_first : (first second : Bool) → first && second ≡ true → first ≡ true
both_first true second held = refl
both_first false second held = held

both_second : (first second : Bool) → first && second ≡ true → second ≡ true
both_second true second held = held
both_second false second held = absurd (one_answer false held refl)

both_of : (first second : Bool) → first ≡ true → second ≡ true → first && second ≡ true
both_of first second one other = rw (one, other) refl

-- no reason for either means that neither gives one
first_passes : (reason other : Option Why) → is_none (or_else reason other) ≡ true → is_none reason ≡ true
first_passes None other held = refl
first_passes (Some reason) other held = held

rest_passes : (reason other : Option Why) → is_none (or_else reason other) ≡ true → is_none other ≡ true
rest_passes None other held = held
rest_passes (Some reason) other held = absurd (one_answer false held refl)

both_pass : (reason other : Option Why) → is_none reason ≡ true → is_none other ≡ true → is_none (or_else reason other)
    ≡ true
both_pass None other first second = second
both_pass (Some reason) other first second = first

-- a test without its reason against it holds
test_holds : (test : Bool) (reason : Why) → is_none (unless test reason) ≡ true → test ≡ true
test_holds true reason held = refl
test_holds false reason held = held

test_passes : (test : Bool) (reason : Why) → test ≡ true → is_none (unless test reason) ≡ true
test_passes true reason held = refl
test_passes false reason held = held

-- one more listed action
action_of_more : (rules : Rules) (before after : List (List ℕ)) (one : List ℕ) (action : Option (List ℕ))
    → passes_action rules (before ++ after) action ≡ true → passes_action rules (before ++ one ∷ after) action ≡ true
action_of_more Profile [] after one None held = refl
action_of_more Profile (first ∷ before) after one None held = refl
action_of_more Profile [] [] one (Some action) held = absurd (one_answer false held refl)
action_of_more Profile [] (first ∷ after) one (Some action) held = any_of_more (λ listed. is_same listed action) []
    (first ∷ after) one held
action_of_more Profile (first ∷ before) after one (Some action) held = any_of_more (λ listed. is_same listed action)
    (first ∷ before) after one held
action_of_more Android12 before after one None held = refl
action_of_more Android12 before after one (Some action) held = any_of_more (λ listed. is_same listed action)
    before after one held

-- one more listed category
all_of_more : (before after : List (List ℕ)) (one : List ℕ) (categories : List (List ℕ))
    → list_all (λ category. lists (before ++ after) category) categories ≡ true
    → list_all (λ category. lists (before ++ one ∷ after) category) categories ≡ true
all_of_more before after one [] held = refl
all_of_more before after one (category ∷ others) held =
    both_of _ _
    (any_of_more (λ listed. is_same listed category) before after one (both_first _ _ held))
    (all_of_more before after one others (both_second _ _ held))

categories_of_more : (before after : List (List ℕ)) (one : List ℕ) (categories : List (List ℕ)) (need_default : Bool)
    → passes_categories (before ++ after) categories need_default ≡ true
    → passes_categories (before ++ one ∷ after) categories need_default ≡ true
categories_of_more before after one categories need_default held =
    both_of _ _
    (all_of_more before after one categories (both_first _ _ held))
    (either_to (not need_default) _ _ (any_of_more (λ listed. is_same listed default_category) before after one)
    (both_second (list_all (λ category. lists (before ++ after) category) categories) _ held))

-- the test on data sees neither actions nor categories
same_data_why : (rules : Rules) (filter : Filter) (actions categories : List (List ℕ)) (uri : Option Uri)
    (mime : Option Mime) → data_why rules (record filter { actions = actions; categories = categories }) uri mime
    ≡ data_why rules filter uri mime
same_data_why rules filter actions categories None None = refl
same_data_why rules filter actions categories None (Some mime) = refl
same_data_why rules filter actions categories (Some uri) None = refl
same_data_why rules filter actions categories (Some uri) (Some mime) = refl

-- a filter that lists some type doesn't list none
untyped : (types before after : List Mime) → types ≡ before ++ after → is_empty (before ++ after) ≡ false
    → is_empty types ≡ true → ⊥
untyped types before after listed some none = one_answer (is_empty (before ++ after)) (ap is_empty (sym listed) ∙ none)
    some

typed : (types before after : List Mime) (mime : Mime) → types ≡ before ++ after → passes_type types mime ≡ true
    → passes_type (before ++ after) mime ≡ true
typed types before after mime listed held = ap (λ (those : List Mime). passes_type those mime) (sym listed) ∙ held

-- one more listed type, where some is listed
data_of_more : (rules : Rules) (filter : Filter) (before after : List Mime) (one : Mime) (uri : Option Uri) (mime : Option Mime)
    → filter.types ≡ before ++ after → is_empty (before ++ after) ≡ false → is_none (data_why rules filter uri mime) ≡ true
    → is_none (data_why rules (record filter { types = before ++ one ∷ after }) uri mime) ≡ true
data_of_more rules filter before after one None None listed some held =
    absurd (untyped filter.types before after listed some (test_holds _ _
    (rest_passes (unless (is_empty filter.schemes) Scheme) (unless (is_empty filter.types) Type_) held)))
data_of_more rules filter before after one (Some uri) None listed some held =
    absurd (untyped filter.types before after listed some (test_holds _ _
    (rest_passes (uri_why rules filter uri) (unless (is_empty filter.types) Type_) held)))
data_of_more rules filter before after one None (Some mime) listed some held =
    both_pass _ _
    (first_passes _ _ held)
    (test_passes _ _ (any_of_more (λ listed. goes_with listed mime) before after one
    (typed filter.types before after mime listed (test_holds _ _
    (rest_passes (unless (is_empty filter.schemes) Scheme) (unless (passes_type filter.types mime) Type_) held)))))
data_of_more rules filter before after one (Some uri) (Some mime) listed some held =
    both_pass _ _
    (first_passes _ _ held)
    (test_passes _ _ (any_of_more (λ listed. goes_with listed mime) before after one
    (typed filter.types before after mime listed (test_holds _ _
    (rest_passes (typed_uri_why rules filter uri) (unless (passes_type filter.types mime) Type_) held)))))

-- a filter that passes still passes with one more action
pub one_more_action : (rules : Rules) (filter : Filter) (before after : List (List ℕ)) (one : List ℕ) (intent : Intent)
    (need_default : Bool) → filter.actions ≡ before ++ after → passes rules filter intent need_default ≡ true
    → passes rules (record filter { actions = before ++ one ∷ after }) intent need_default ≡ true
one_more_action rules filter before after one intent need_default listed held =
    let action = test_holds _ _ (first_passes (unless (passes_action rules filter.actions intent.action) Action) _ held) in
    let rest = rest_passes (unless (passes_action rules filter.actions intent.action) Action) _ held in
    both_pass _ _
    (test_passes _ _ (action_of_more rules before after one intent.action (rw listed at action)))
    (rw (same_data_why rules filter (before ++ one ∷ after) filter.categories intent.uri intent.mime) rest)

-- a filter that passes still passes with one more category
pub one_more_category : (rules : Rules) (filter : Filter) (before after : List (List ℕ)) (one : List ℕ) (intent : Intent)
    (need_default : Bool) → filter.categories ≡ before ++ after → passes rules filter intent need_default ≡ true
    → passes rules (record filter { categories = before ++ one ∷ after }) intent need_default ≡ true
one_more_category rules filter before after one intent need_default listed held =
    let rest = rest_passes (unless (passes_action rules filter.actions intent.action) Action) _ held in
    let categories = test_holds _ _ (rest_passes (data_why rules filter intent.uri intent.mime)
    (unless (passes_categories filter.categories intent.categories need_default) Category) rest) in
    both_pass (unless (passes_action rules filter.actions intent.action) Action) _
    (first_passes (unless (passes_action rules filter.actions intent.action) Action) _ held)
    (both_pass _ _
    (rw (same_data_why rules filter filter.actions (before ++ one ∷ after) intent.uri intent.mime)
    (first_passes (data_why rules filter intent.uri intent.mime) _ rest))
    (test_passes _ _ (categories_of_more before after one intent.categories need_default (rw listed at categories))))

-- a filter that lists some type and passes still passes with one more type
pub one_more_type : (rules : Rules) (filter : Filter) (before after : List Mime) (one : Mime) (intent : Intent) (need_default : Bool)
    → filter.types ≡ before ++ after → is_empty (before ++ after) ≡ false → passes rules filter intent need_default ≡ true
    → passes rules (record filter { types = before ++ one ∷ after }) intent need_default ≡ true
one_more_type rules filter before after one intent need_default listed some held =
    let rest = rest_passes (unless (passes_action rules filter.actions intent.action) Action) _ held in
    both_pass _ _
    (first_passes _ _ held)
    (both_pass _ _
    (data_of_more rules filter before after one intent.uri intent.mime listed some (first_passes _ _ rest))
    (rest_passes (data_why rules filter intent.uri intent.mime) _ rest))
