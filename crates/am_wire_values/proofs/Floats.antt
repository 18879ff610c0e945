-- No request has a float in its value.
use Rattle.std.proofs.Common.{◌≡◌, ℕ, ℤ, pos, negsuc, Bool, true, false, ◌||◌, List, [], ◌∷◌, ◌++◌, map, Option, cond, Some, None, option_map, nat_cmp, Ordering, Less, Equal, Greater, refl, unsigned_abs, ◌==◌, codes}
use Rattle.std.specs.Cmp.Lexicographic.{slice_cmp}
use Rattle.std.specs.Ordering.{match_ordering}
use Rattle.serde_json.specs.Data.{Data, boolean, string, Members, no_members, member, put}
use Rattle.serde_json.specs.View.{items_of}
use Rattle.serde_json.specs.Written.{has_float, items_have_float, members_have_float}
use Rattle.am_types.specs.declared.broadcast.Answer.{Answer}
use Rattle.am_types.specs.declared.broadcast.Ordered.{Ordered}
use Rattle.am_types.specs.declared.broadcast.Outcome.{Outcome}
use Rattle.am_types.specs.declared.filter.Authority.{Authority}
use Rattle.am_types.specs.declared.filter.Filter.{Filter}
use Rattle.am_types.specs.declared.filter.PathRule.{PathRule}
use Rattle.am_types.specs.declared.filter.PathRule.TheVariants.{Literal, Prefix, Suffix, Pattern}
use Rattle.am_types.specs.declared.intent.Extra.{Extra}
use Rattle.am_types.specs.declared.intent.Extra.TheVariants.{Word, Whole, Truth}
use Rattle.am_types.specs.declared.intent.Intent.{Intent}
use Rattle.am_types.specs.declared.intent.Named.{Named}
use Rattle.am_types.specs.declared.manifest.Kind.{Kind}
use Rattle.am_types.specs.declared.pending.PendingFlags.{PendingFlags}
use Rattle.am_types.specs.declared.request.Request.{Request}
use Rattle.am_types.specs.declared.request.Request.TheVariants as asks
use Rattle.am_wire_values.specs.Fields.{put_given, natural, whole, some_whole, some_listed, texts_data, some_texts, some_truth}
use Rattle.am_wire_values.specs.Filters.{scheme_row, authority_row, path_row, type_row, rows_of, filter_data}
use Rattle.am_wire_values.specs.Intents.{component_data, mime_data, uri_data, extra_data, with_extras, extras_data, some_extras, intent_data}
use Rattle.am_wire_values.specs.Names.{names_set, flags_named, pending_named, kind_name, pending_name}
use Rattle.am_wire_values.specs.Requests.{with_one, with_two, with_outcome, with_ordered, with_order, with_set, query_data, explain_data, start_data, send_data, register_data, finish_data, get_data, pending_send_data, grant_data, link_data, request_data}

-- neither of two
pub neither : (a b : Bool) → a ≡ false → b ≡ false → (a || b) ≡ false
neither true b h k = h
neither false b h k = k

-- the parts of neither
parts : (a b : Bool) → (a || b) ≡ false → (a ≡ false) × (b ≡ false)
parts true b h = (h, false_is b h)
  where
    false_is : (b : Bool) → true ≡ false → b ≡ false
    false_is true h = h
    false_is false h = refl
parts false b h = (refl, h)

-- one of three
one_of : (o : Ordering) (a b c : Members) → members_have_float a ≡ false → members_have_float b ≡ false
    → members_have_float c ≡ false
    → members_have_float (match_ordering o a b c) ≡ false
one_of Less a b c p q r = p
one_of Equal a b c p q r = q
one_of Greater a b c p q r = r

-- a value put among members
pub put_none : (k : List ℕ) (d : Data) (ms : Members) → has_float d ≡ false → members_have_float ms ≡ false
    → members_have_float (put k d ms) ≡ false
put_none k d no_members h n = neither _ _ h refl
put_none k d (member l e ms) h n =
    let both = parts (has_float e) (members_have_float ms) n in
    one_of (slice_cmp nat_cmp k l) (member k d (member l e ms)) (member l d ms) (member l e (put k d ms))
    (neither _ _ h n) (neither _ _ h both.1) (neither _ _ both.0 (put_none k d ms h both.1))

-- a value that may be absent has a float
abbrev pub float_in : Option Data → Bool
float_in None = false
float_in (Some d) = has_float d

-- a value put if there is one
pub given_none : (k : List ℕ) (o : Option Data) (ms : Members) → float_in o ≡ false → members_have_float ms ≡ false
    → members_have_float (put_given k o ms) ≡ false
given_none k None ms h n = n
given_none k (Some d) ms h n = put_none k d ms h n

-- what is there is written without one
pub option_none : {X : Type 0} (f : X → Data) → ((x : X) → has_float (f x) ≡ false) → (o : Option X)
    → float_in (option_map f o) ≡ false
option_none f h None = refl
option_none f h (Some x) = h x

-- a list of values
pub mapped_none : {X : Type 0} (f : X → Data) → ((x : X) → has_float (f x) ≡ false) → (xs : List X)
    → items_have_float (items_of (map f xs)) ≡ false
mapped_none f h [] = refl
mapped_none f h (x ∷ xs) = neither _ _ (h x) (mapped_none f h xs)

-- two lists
appended_none : (xs ys : List Data) → items_have_float (items_of xs) ≡ false → items_have_float (items_of ys) ≡ false
    → items_have_float (items_of (xs ++ ys)) ≡ false
appended_none [] ys h n = n
appended_none (x ∷ xs) ys h n =
    let both = parts (has_float x) (items_have_float (items_of xs)) h in
    neither _ _ both.0 (appended_none xs ys both.1 n)

-- a list unless it is empty
some_listed_none : (ds : List Data) → items_have_float (items_of ds) ≡ false → float_in (some_listed ds) ≡ false
some_listed_none [] h = refl
some_listed_none (d ∷ ds) h = h

text_none : (t : List ℕ) → has_float (string t) ≡ false
text_none t = refl

-- texts
texts_none : (ts : List (List ℕ)) → items_have_float (items_of (map string ts)) ≡ false
texts_none ts = mapped_none string text_none ts

-- a whole number
pub whole_none : (n : ℤ) → has_float (whole n) ≡ false
whole_none (pos n) = refl
whole_none (negsuc n) = refl

some_whole_none : (n : ℤ) → float_in (some_whole n) ≡ false
some_whole_none n = by (unsigned_abs n == 0)
  where
    by : (b : Bool) → float_in (cond b None (Some (whole n))) ≡ false
    by true = refl
    by false = whole_none n

truth_none : (b : Bool) → float_in (some_truth b) ≡ false
truth_none true = refl
truth_none false = refl

extra_none : (e : Extra) → has_float (extra_data e) ≡ false
extra_none (Word t) = refl
extra_none (Whole n) = whole_none n
extra_none (Truth b) = refl

with_extras_none : (es : List Named) (ms : Members) → members_have_float ms ≡ false
    → members_have_float (with_extras es ms) ≡ false
with_extras_none [] ms n = n
with_extras_none (e ∷ es) ms n = with_extras_none es (put e.key (extra_data e.value) ms)
    (put_none e.key (extra_data e.value) ms (extra_none e.value) n)

-- extras
pub extras_none : (es : List Named) → has_float (extras_data es) ≡ false
extras_none es = with_extras_none es no_members refl

some_extras_none : (es : List Named) → float_in (some_extras es) ≡ false
some_extras_none [] = refl
some_extras_none (e ∷ es) = extras_none (e ∷ es)

-- an intent
pub intent_none : (i : Intent) → has_float (intent_data i) ≡ false
unfolding intent_data
intent_none i =
    let ms-a : Members = put_given (codes "action") (option_map string i.action) no_members in
    let none-a : members_have_float ms-a ≡ false = given_none (codes "action") (option_map string i.action) no_members
    (option_none string text_none i.action) refl in
    let ms-b : Members = put_given (codes "categories") (some_texts i.categories) ms-a in
    let none-b : members_have_float ms-b ≡ false = given_none (codes "categories") (some_texts i.categories) ms-a
    (some_listed_none (map string i.categories) (texts_none i.categories)) none-a in
    let ms-c : Members = put_given (codes "data") (option_map uri_data i.uri) ms-b in
    let none-c : members_have_float ms-c ≡ false = given_none (codes "data") (option_map uri_data i.uri) ms-b
    (option_none uri_data (λ u. refl) i.uri) none-b in
    let ms-d : Members = put_given (codes "type") (option_map mime_data i.mime) ms-c in
    let none-d : members_have_float ms-d ≡ false = given_none (codes "type") (option_map mime_data i.mime) ms-c
    (option_none mime_data (λ m. refl) i.mime) none-c in
    let ms-e : Members = put_given (codes "component") (option_map component_data i.component) ms-d in
    let none-e : members_have_float ms-e ≡ false = given_none (codes "component")
    (option_map component_data i.component) ms-d (option_none component_data (λ c. refl) i.component) none-d in
    let ms-f : Members = put_given (codes "identifier") (option_map string i.identifier) ms-e in
    let none-f : members_have_float ms-f ≡ false = given_none (codes "identifier") (option_map string i.identifier) ms-e
    (option_none string text_none i.identifier) none-e in
    let ms-g : Members = put_given (codes "package") (option_map string i.«package») ms-f in
    let none-g : members_have_float ms-g ≡ false = given_none (codes "package") (option_map string i.«package») ms-f
    (option_none string text_none i.«package») none-f in
    let ms-h : Members = put_given (codes "extras") (some_extras i.extras) ms-g in
    let none-h : members_have_float ms-h ≡ false = given_none (codes "extras") (some_extras i.extras) ms-g
    (some_extras_none i.extras) none-g in
    given_none (codes "flags") (some_texts (names_set (flags_named i.flags))) ms-h
    (some_listed_none (map string (names_set (flags_named i.flags))) (texts_none (names_set (flags_named i.flags))))
    none-h

authority_none : (a : Authority) → has_float (authority_row a) ≡ false
authority_none a =
    let ms-a : Members = put (codes "host") (string a.host) no_members in
    let none-a : members_have_float ms-a ≡ false = put_none (codes "host") (string a.host) no_members refl refl in
    given_none (codes "port") (option_map natural a.port) ms-a (option_none natural (λ n. refl) a.port) none-a

path_none : (p : PathRule) → has_float (path_row p) ≡ false
path_none (Literal t) = refl
path_none (Prefix t) = refl
path_none (Suffix t) = refl
path_none (Pattern t) = refl

rows_none : (f : Filter) → items_have_float (items_of (rows_of f)) ≡ false
unfolding rows_of
rows_none f =
    appended_none ((map scheme_row f.schemes ++ map authority_row f.authorities) ++ map path_row f.paths) _
    (appended_none (map scheme_row f.schemes ++ map authority_row f.authorities) _
    (appended_none (map scheme_row f.schemes) _ (mapped_none scheme_row (λ s. refl) f.schemes)
    (mapped_none authority_row authority_none f.authorities))
    (mapped_none path_row path_none f.paths))
    (mapped_none type_row (λ m. refl) f.types)

-- a filter
filter_none : (f : Filter) → has_float (filter_data f) ≡ false
unfolding filter_data
filter_none f =
    let ms-a : Members = put (codes "actions") (texts_data f.actions) no_members in
    let none-a : members_have_float ms-a ≡ false = put_none (codes "actions") (texts_data f.actions) no_members
    (texts_none f.actions) refl in
    let ms-b : Members = put_given (codes "categories") (some_texts f.categories) ms-a in
    let none-b : members_have_float ms-b ≡ false = given_none (codes "categories") (some_texts f.categories) ms-a
    (some_listed_none (map string f.categories) (texts_none f.categories)) none-a in
    let ms-c : Members = put_given (codes "data") (some_listed (rows_of f)) ms-b in
    let none-c : members_have_float ms-c ≡ false = given_none (codes "data") (some_listed (rows_of f)) ms-b
    (some_listed_none (rows_of f) (rows_none f)) none-b in
    given_none (codes "priority") (some_whole f.priority) ms-c (some_whole_none f.priority) none-c

outcome_none : (o : Outcome) (ms : Members) → members_have_float ms ≡ false → members_have_float (with_outcome o ms)
    ≡ false
unfolding with_outcome
outcome_none o ms n =
    let ms-a : Members = put_given (codes "data") (option_map string o.text) ms in
    let none-a : members_have_float ms-a ≡ false = given_none (codes "data") (option_map string o.text) ms
    (option_none string text_none o.text) n in
    given_none (codes "extras") (some_extras o.extras) ms-a (some_extras_none o.extras) none-a

ordered_none : (o : Ordered) (ms : Members) → members_have_float ms ≡ false → members_have_float (with_ordered o ms)
    ≡ false
unfolding with_ordered
ordered_none o ms n =
    let ms-a : Members = put (codes "ordered") (boolean true) ms in
    let none-a : members_have_float ms-a ≡ false = put_none (codes "ordered") (boolean true) ms refl n in
    let ms-b : Members = with_outcome o.initial ms-a in
    let none-b : members_have_float ms-b ≡ false = outcome_none o.initial ms-a none-a in
    let ms-c : Members = put_given (codes "code") (some_whole o.initial.code) ms-b in
    let none-c : members_have_float ms-c ≡ false = given_none (codes "code") (some_whole o.initial.code) ms-b
    (some_whole_none o.initial.code) none-b in
    given_none (codes "result") (some_truth o.wanted) ms-c (truth_none o.wanted) none-c

order_none : (o : Option Ordered) (ms : Members) → members_have_float ms ≡ false → members_have_float (with_order o ms)
    ≡ false
order_none None ms n = n
order_none (Some o) ms n = ordered_none o ms n

set_none : (o : Option Outcome) (ms : Members) → members_have_float ms ≡ false → members_have_float (with_set o ms)
    ≡ false
set_none None ms n = n
set_none (Some o) ms n = outcome_none o (put (codes "code") (whole o.code) ms)
    (put_none (codes "code") (whole o.code) ms (whole_none o.code) n)

one_none : (k : List ℕ) (d : Data) → has_float d ≡ false → has_float (with_one k d) ≡ false
one_none k d h = put_none k d no_members h refl

two_none : (k : List ℕ) (d : Data) (l : List ℕ) (e : Data) → has_float d ≡ false → has_float e ≡ false
    → has_float (with_two k d l e) ≡ false
two_none k d l e h n = put_none l e (put k d no_members) n (one_none k d h)

-- the members of a kind and an intent
abbrev asked : Kind → Intent → Members
asked kind intent = put (codes "intent") (intent_data intent) (put (codes "kind") (string (kind_name kind)) no_members)

asked_none : (kind : Kind) (intent : Intent) → members_have_float (asked kind intent) ≡ false
asked_none kind intent =
    put_none (codes "intent") (intent_data intent) (put (codes "kind") (string (kind_name kind)) no_members)
    (intent_none intent) (put_none (codes "kind") (string (kind_name kind)) no_members refl refl)

query_none : (kind : Kind) (intent : Intent) (default_only : Bool) → has_float (query_data kind intent default_only)
    ≡ false
unfolding query_data
query_none kind intent default_only = given_none (codes "defaultOnly") (some_truth default_only) (asked kind intent)
    (truth_none default_only) (asked_none kind intent)

explain_none : (kind : Kind) (intent : Intent) (caller permission shown : Option (List ℕ))
    → has_float (explain_data kind intent caller permission shown) ≡ false
unfolding explain_data
explain_none kind intent caller permission shown =
    let ms-a : Members = put_given (codes "as") (option_map string caller) (asked kind intent) in
    let none-a : members_have_float ms-a ≡ false = given_none (codes "as") (option_map string caller)
    (asked kind intent) (option_none string text_none caller) (asked_none kind intent) in
    let ms-b : Members = put_given (codes "permission") (option_map string permission) ms-a in
    let none-b : members_have_float ms-b ≡ false = given_none (codes "permission") (option_map string permission) ms-a
    (option_none string text_none permission) none-a in
    given_none (codes "of") (option_map string shown) ms-b (option_none string text_none shown) none-b

start_none : (intent : Intent) (source : Option ℕ) → has_float (start_data intent source) ≡ false
unfolding start_data
start_none intent source =
    let ms-a : Members = put (codes "intent") (intent_data intent) no_members in
    let none-a : members_have_float ms-a ≡ false = put_none (codes "intent") (intent_data intent) no_members
    (intent_none intent) refl in
    given_none (codes "source") (option_map natural source) ms-a (option_none natural (λ n. refl) source) none-a

send_none : (intent : Intent) (permission : Option (List ℕ)) (ordered : Option Ordered)
    → has_float (send_data intent permission ordered) ≡ false
unfolding send_data
send_none intent permission ordered =
    let ms-a : Members = put (codes "intent") (intent_data intent) no_members in
    let none-a : members_have_float ms-a ≡ false = put_none (codes "intent") (intent_data intent) no_members
    (intent_none intent) refl in
    let ms-b : Members = put_given (codes "permission") (option_map string permission) ms-a in
    let none-b : members_have_float ms-b ≡ false = given_none (codes "permission") (option_map string permission) ms-a
    (option_none string text_none permission) none-a in
    order_none ordered ms-b none-b

register_none : (filter : Filter) (permission : Option (List ℕ)) → has_float (register_data filter permission) ≡ false
unfolding register_data
register_none filter permission =
    let ms-a : Members = put (codes "filter") (filter_data filter) no_members in
    let none-a : members_have_float ms-a ≡ false = put_none (codes "filter") (filter_data filter) no_members
    (filter_none filter) refl in
    given_none (codes "permission") (option_map string permission) ms-a (option_none string text_none permission) none-a

finish_none : (delivery : ℕ) (answer : Answer) → has_float (finish_data delivery answer) ≡ false
unfolding finish_data
finish_none delivery answer =
    let ms-a : Members = put (codes "delivery") (natural delivery) no_members in
    let none-a : members_have_float ms-a ≡ false = put_none (codes "delivery") (natural delivery) no_members refl refl
    in
    let ms-b : Members = put_given (codes "abort") (some_truth answer.abort) ms-a in
    let none-b : members_have_float ms-b ≡ false = given_none (codes "abort") (some_truth answer.abort) ms-a
    (truth_none answer.abort) none-a in
    set_none answer.set ms-b none-b

get_none : (kind : Kind) (code : ℤ) (intent : Intent) (flags : PendingFlags)
    → has_float (get_data kind code intent flags) ≡ false
unfolding get_data
get_none kind code intent flags =
    let ms-a : Members = put (codes "kind") (string (pending_name kind)) no_members in
    let none-a : members_have_float ms-a ≡ false = put_none (codes "kind") (string (pending_name kind)) no_members refl
    refl in
    let ms-b : Members = put (codes "code") (whole code) ms-a in
    let none-b : members_have_float ms-b ≡ false = put_none (codes "code") (whole code) ms-a (whole_none code) none-a in
    let ms-c : Members = put (codes "intent") (intent_data intent) ms-b in
    let none-c : members_have_float ms-c ≡ false = put_none (codes "intent") (intent_data intent) ms-b
    (intent_none intent) none-b in
    put_none (codes "flags") (texts_data (names_set (pending_named flags))) ms-c
    (texts_none (names_set (pending_named flags))) none-c

pending_send_none : (token : ℕ) (fill : Option Intent) → has_float (pending_send_data token fill) ≡ false
unfolding pending_send_data
pending_send_none token fill =
    let ms-a : Members = put (codes "token") (natural token) no_members in
    let none-a : members_have_float ms-a ≡ false = put_none (codes "token") (natural token) no_members refl refl in
    given_none (codes "fill") (option_map intent_data fill) ms-a (option_none intent_data intent_none fill) none-a

-- a package, a text and whether it has that right
right_none : (name key text : List ℕ) (word : List ℕ) (has : Bool) → members_have_float (put word (boolean has)
    (put key (string text) (put (codes "package") (string name) no_members))) ≡ false
right_none name key text word has =
    put_none word (boolean has) (put key (string text) (put (codes "package") (string name) no_members)) refl
    (two_none (codes "package") (string name) key (string text) refl refl)

grant_none : (name permission : List ℕ) (held : Bool) → has_float (grant_data name permission held) ≡ false
unfolding grant_data
grant_none name permission held = right_none name (codes "permission") permission (codes "held") held

link_none : (name host : List ℕ) (approved : Bool) → has_float (link_data name host approved) ≡ false
unfolding link_data
link_none name host approved = right_none name (codes "host") host (codes "approved") approved

-- a request
pub request_none : (r : Request) → has_float (request_data r) ≡ false
unfolding request_data
request_none (asks.Query kind intent default_only) = query_none kind intent default_only
request_none (asks.Explain kind intent caller permission shown) = explain_none kind intent caller permission shown
request_none (asks.Start intent source) = start_none intent source
request_none (asks.FinishActivity instance) = one_none (codes "instance") (natural instance) refl
request_none (asks.StartService intent) = one_none (codes "intent") (intent_data intent) (intent_none intent)
request_none (asks.StopService component) = one_none (codes "component") (component_data component) refl
request_none (asks.Send intent permission ordered) = send_none intent permission ordered
request_none (asks.Register filter permission) = register_none filter permission
request_none (asks.Unregister registered) = one_none (codes "number") (natural registered) refl
request_none (asks.Finish delivery answer) = finish_none delivery answer
request_none (asks.PendingGet kind code intent flags) = get_none kind code intent flags
request_none (asks.PendingSend token fill) = pending_send_none token fill
request_none (asks.PendingCancel token) = one_none (codes "token") (natural token) refl
request_none (asks.PendingGive token name) = two_none (codes "package") (string name) (codes "token") (natural token)
    refl refl
request_none (asks.Install text key) = two_none (codes "key") (string key) (codes "manifest") (string text) refl refl
request_none (asks.Uninstall name) = one_none (codes "package") (string name) refl
request_none (asks.Grant name permission held) = grant_none name permission held
request_none (asks.Link name host approved) = link_none name host approved
request_none (asks.ForceStop name) = one_none (codes "package") (string name) refl
request_none (asks.Advance by) = one_none (codes "by") (natural by) refl
request_none (asks.History from) = one_none (codes "from") (natural from) refl
request_none _ = refl
