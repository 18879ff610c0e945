-- The value of a request nests less deep than a text may.
use Rattle.std.proofs.Common.{◌≡◌, ℕ, suc, ◌≤◌, ℤ, pos, negsuc, Bool, true, false, cond, List, [], ◌∷◌, ◌++◌, map, Option, Some, None, option_map, refl, sym, subst, arith}
use Rattle.std.specs.Prelude.{codes, unsigned_abs, ◌==◌}
use Rattle.std.specs.List.{AllByRecursion}
use Rattle.serde_json.specs.Data.{Data, boolean, string, object, Members, no_members, put, depth, items_depth, members_depth}
use Rattle.serde_json.specs.Read.{max_depth}
use Rattle.serde_json.specs.View.{items_of}
use Rattle.am_types.specs.declared.broadcast.Outcome.{Outcome}
use Rattle.am_types.specs.declared.filter.Authority.{Authority}
use Rattle.am_types.specs.declared.filter.Filter.{Filter}
use Rattle.am_types.specs.declared.filter.PathRule.{PathRule}
use Rattle.am_types.specs.declared.filter.PathRule.TheVariants.{Literal, Prefix, Suffix, Pattern}
use Rattle.am_types.specs.declared.intent.Extra.{Extra}
use Rattle.am_types.specs.declared.intent.Extra.TheVariants.{Word, Whole, Truth}
use Rattle.am_types.specs.declared.intent.Intent.{Intent}
use Rattle.am_types.specs.declared.intent.Named.{Named}
use Rattle.am_types.specs.declared.request.Request.{Request}
use Rattle.am_types.specs.declared.request.Request.TheVariants as asks
use Rattle.am_wire_values.specs.Fields.{natural, whole, some_whole, listed, some_listed, texts_data, some_texts, some_truth}
use Rattle.am_wire_values.specs.Filters.{scheme_row, authority_row, path_row, type_row, rows_of, filter_data}
use Rattle.am_wire_values.specs.Intents.{component_data, mime_data, uri_data, extra_data, with_extras, some_extras, intent_data}
use Rattle.am_wire_values.specs.Names.{names_set, flags_named, pending_named, kind_name, pending_name}
use Rattle.am_wire_values.specs.Requests.{with_one, with_two, with_outcome, with_ordered, query_data, explain_data, start_data, send_data, register_data, finish_data, get_data, pending_send_data, grant_data, link_data, request_data}
use Rattle.am_wire_read_back.proofs.Accounts.{explain_entries}
use Rattle.am_wire_read_back.proofs.Broadcasts.{plain_entries, ordered_entries, answer_entries, outcome_entries}
use Rattle.am_wire_read_back.proofs.Filters.{filter_entries, filter_is}
use Rattle.am_wire_read_back.proofs.Intents.{intent_entries, intent_is}
use Rattle.am_wire_read_back.proofs.Objects.{Entry, members_with, IsWithin, AreWithin, depth_put, object_within}

least : (n : ℕ) → 0 ≤ n
least n = omega arith

-- optional values
maybe : {A : Type 0} (n : ℕ) (write : A → Data) → ((x : A) → depth (write x) ≤ n) → (o : Option A)
    → IsWithin n (option_map write o)
maybe n write h None = tt
maybe n write h (Some x) = h x

flat : {A : Type 0} (n : ℕ) (write : A → Data) → ((x : A) → depth (write x) ≡ 0) → (o : Option A)
    → IsWithin n (option_map write o)
flat n write h None = tt
flat n write h (Some x) = omega (arith, h x)

truth : (n : ℕ) (b : Bool) → IsWithin n (some_truth b)
truth n true = omega arith
truth n false = tt

whole_flat : (z : ℤ) → depth (whole z) ≡ 0
whole_flat (pos n) = refl
whole_flat (negsuc n) = refl

number : (n : ℕ) (z : ℤ) → IsWithin n (some_whole z)
number n z = by (unsigned_abs z == 0)
  where
    by : (b : Bool) → IsWithin n (cond b None (Some (whole z)))
    by true = tt
    by false = omega (arith, whole_flat z)

items : (n : ℕ) (ds : List Data) → AllByRecursion (λ d. depth d ≤ n) ds → items_depth (items_of ds) ≤ n
items n [] h = omega arith
items n (d ∷ ds) h = omega (arith, h.0, items n ds h.1)

array_of : (n : ℕ) (ds : List Data) → AllByRecursion (λ d. depth d ≤ n) ds → depth (listed ds) ≤ suc n
array_of n ds h = omega (arith, items n ds h)

some_array : (n : ℕ) (ds : List Data) → AllByRecursion (λ d. depth d ≤ n) ds → IsWithin (suc n) (some_listed ds)
some_array n [] h = tt
some_array n (d ∷ ds) h = array_of n (d ∷ ds) h

mapped : {A : Type 0} (n : ℕ) (write : A → Data) → ((x : A) → depth (write x) ≤ n) → (xs : List A)
    → AllByRecursion (λ d. depth d ≤ n) (map write xs)
mapped n write h [] = tt
mapped n write h (x ∷ xs) = (h x, mapped n write h xs)

joined : (n : ℕ) (ds es : List Data) → AllByRecursion (λ d. depth d ≤ n) ds → AllByRecursion (λ d. depth d ≤ n) es
    → AllByRecursion (λ d. depth d ≤ n) (ds ++ es)
joined n [] es h k = k
joined n (d ∷ ds) es h k = (h.0, joined n ds es h.1 k)

texts : (ts : List (List ℕ)) → IsWithin 1 (some_texts ts)
texts ts = some_array 0 (map string ts) (mapped 0 string (λ t. omega arith) ts)

texts_array : (ts : List (List ℕ)) → depth (texts_data ts) ≤ 1
texts_array ts = array_of 0 (map string ts) (mapped 0 string (λ t. omega arith) ts)

extra_flat : (e : Extra) → depth (extra_data e) ≤ 0
extra_flat (Word t) = omega arith
extra_flat (Whole z) = omega (arith, whole_flat z)
extra_flat (Truth b) = omega arith

extras_flat : (ns : List Named) (ms : Members) → members_depth ms ≤ 0 → members_depth (with_extras ns ms) ≤ 0
extras_flat [] ms h = h
extras_flat (n ∷ ns) ms h = extras_flat ns (put n.key (extra_data n.value) ms)
    (depth_put n.key (extra_data n.value) ms 0 (extra_flat n.value) h)

extras : (ns : List Named) → IsWithin 1 (some_extras ns)
extras [] = tt
extras (n ∷ ns) = omega (arith, extras_flat (n ∷ ns) no_members (omega arith))

intent : (i : Intent) → depth (intent_data i) ≤ 2
unfolding intent_entries
intent i =
    let P : Data → Type 0 = λ d. depth d ≤ 2 in
    subst P (sym (intent_is i)) (object_within 1 (intent_entries i) (
      texts (names_set (flags_named i.flags)),
      (
        extras i.extras,
        (
          flat 1 string (λ t. refl) i.«package»,
          (
            flat 1 string (λ t. refl) i.identifier,
            (
              flat 1 component_data (λ c. refl) i.component,
              (
                flat 1 mime_data (λ m. refl) i.mime,
                (flat 1 uri_data (λ u. refl) i.uri, (texts i.categories, (flat 1 string (λ t. refl) i.action, tt))),
              ),
            ),
          ),
        ),
      ),
    ))

authority : (a : Authority) → depth (authority_row a) ≤ 1
authority a = object_within 0 ((codes "port", option_map natural a.port) ∷ (codes "host", Some (string a.host)) ∷ [])
    (flat 0 natural (λ n. refl) a.port, (least 0, tt))

path : (rule : PathRule) → depth (path_row rule) ≤ 1
path (Literal t) = omega arith
path (Prefix t) = omega arith
path (Suffix t) = omega arith
path (Pattern t) = omega arith

rows : (f : Filter) → IsWithin 2 (some_listed (rows_of f))
unfolding rows_of
rows f =
    some_array 1 (((map scheme_row f.schemes ++ map authority_row f.authorities) ++ map path_row f.paths)
    ++ map type_row f.types)
    (joined 1 ((map scheme_row f.schemes ++ map authority_row f.authorities) ++ map path_row f.paths) _
    (joined 1 (map scheme_row f.schemes ++ map authority_row f.authorities) _
    (joined 1 (map scheme_row f.schemes) _ (mapped 1 scheme_row (λ s. omega arith) f.schemes)
    (mapped 1 authority_row authority f.authorities)) (mapped 1 path_row path f.paths))
    (mapped 1 type_row (λ m. omega arith) f.types))

wider : (m n : ℕ) (o : Option Data) → m ≤ n → IsWithin m o → IsWithin n o
wider m n None le h = tt
wider m n (Some d) le h = omega arith

filter : (f : Filter) → depth (filter_data f) ≤ 3
unfolding filter_entries
filter f =
    let P : Data → Type 0 = λ d. depth d ≤ 3 in
    subst P (sym (filter_is f)) (object_within 2 (filter_entries f) (
      number 2 f.priority,
      (
        rows f,
        (
          wider 1 2 (some_texts f.categories) (omega arith) (texts f.categories),
          (omega (arith, texts_array f.actions), tt),
        ),
      ),
    ))

-- a request
abbrev pub IsShallow : Data → Type 0
IsShallow d = depth d ≤ 4

within_four : (es : List Entry) → AreWithin 3 es → IsShallow (object (members_with es))
within_four es h = object_within 3 es h

an_intent : (i : Intent) → depth (intent_data i) ≤ 3
an_intent i = omega (arith, intent i)

some_extras_within : (ns : List Named) → IsWithin 3 (some_extras ns)
some_extras_within ns = wider 1 3 (some_extras ns) (omega arith) (extras ns)

one_flat : (name : List ℕ) (d : Data) → depth d ≤ 3 → IsShallow (with_one name d)
one_flat name d h = within_four ((name, Some d) ∷ []) (h, tt)

two_flat : (name : List ℕ) (d : Data) (other : List ℕ) (e : Data) → depth d ≤ 3 → depth e ≤ 3
    → IsShallow (with_two name d other e)
two_flat name d other e h k = within_four ((other, Some e) ∷ (name, Some d) ∷ []) (k, (h, tt))

pub shallow : (r : Request) → IsShallow (request_data r)
unfolding request_data query_data explain_data start_data send_data register_data finish_data get_data pending_send_data
    grant_data link_data with_ordered with_outcome
shallow (asks.Query kind i default_only) =
    within_four ((codes "defaultOnly", some_truth default_only) ∷ (codes "intent", Some (intent_data i))
    ∷ (codes "kind", Some (string (kind_name kind))) ∷ []) (truth 3 default_only, (an_intent i, (least 3, tt)))
shallow (asks.Explain kind i caller permission shown) =
    within_four (explain_entries kind i caller permission shown) (
      flat 3 string (λ t. refl) shown,
      (
        flat 3 string (λ t. refl) permission,
        (flat 3 string (λ t. refl) caller, (an_intent i, (least 3, tt))),
      ),
    )
shallow (asks.Start i source) = within_four ((codes "source", option_map natural source)
    ∷ (codes "intent", Some (intent_data i)) ∷ []) (flat 3 natural (λ n. refl) source, (an_intent i, tt))
shallow (asks.FinishActivity instance) = one_flat (codes "instance") (natural instance) (least 3)
shallow (asks.StartService i) = one_flat (codes "intent") (intent_data i) (an_intent i)
shallow (asks.StopService component) = one_flat (codes "component") (component_data component) (least 3)
shallow (asks.Send i permission None) = within_four (plain_entries i permission)
    (flat 3 string (λ t. refl) permission, (an_intent i, tt))
shallow (asks.Send i permission (Some o)) =
    within_four (ordered_entries i permission o) (
      truth 3 o.wanted,
      (
        number 3 o.initial.code,
        (
          some_extras_within o.initial.extras,
          (
            flat 3 string (λ t. refl) o.initial.text,
            (
              least 3,
              (
                flat 3 string (λ t. refl) permission,
                (an_intent i, tt),
              ),
            ),
          ),
        ),
      ),
    )
shallow (asks.Register f permission) = within_four ((codes "permission", option_map string permission)
    ∷ (codes "filter", Some (filter_data f)) ∷ []) (flat 3 string (λ t. refl) permission, (filter f, tt))
shallow (asks.Unregister registered) = one_flat (codes "number") (natural registered) (least 3)
shallow (asks.Finish delivery answer) = by answer.set
  where
    by : (set : Option Outcome) → IsShallow (finish_data delivery (record { set = set; abort = answer.abort }))
    by None = within_four (answer_entries delivery answer.abort) (truth 3 answer.abort, (least 3, tt))
    by (Some o) =
        within_four (outcome_entries delivery answer.abort o) (
          some_extras_within o.extras,
          (
            flat 3 string (λ t. refl) o.text,
            (
              omega (arith, whole_flat o.code),
              (truth 3 answer.abort, (least 3, tt)),
            ),
          ),
        )
shallow (asks.PendingGet kind code i flags) =
    within_four ((codes "flags", Some (texts_data (names_set (pending_named flags))))
    ∷ (codes "intent", Some (intent_data i)) ∷ (codes "code", Some (whole code))
    ∷ (codes "kind", Some (string (pending_name kind))) ∷ []) (
      omega (arith, texts_array (names_set (pending_named flags))),
      (an_intent i, (omega (arith, whole_flat code), (least 3, tt))),
    )
shallow (asks.PendingSend token fill) = within_four ((codes "fill", option_map intent_data fill)
    ∷ (codes "token", Some (natural token)) ∷ []) (maybe 3 intent_data an_intent fill, (least 3, tt))
shallow (asks.PendingCancel token) = one_flat (codes "token") (natural token) (least 3)
shallow (asks.PendingGive token name) = two_flat (codes "package") (string name) (codes "token") (natural token)
    (least 3) (least 3)
shallow (asks.Install text key) = two_flat (codes "key") (string key) (codes "manifest") (string text) (least 3)
    (least 3)
shallow (asks.Uninstall name) = one_flat (codes "package") (string name) (least 3)
shallow (asks.Grant name permission held) =
    within_four ((codes "held", Some (boolean held)) ∷ (codes "permission", Some (string permission))
    ∷ (codes "package", Some (string name)) ∷ []) (least 3, (least 3, (least 3, tt)))
shallow (asks.Link name host approved) =
    within_four ((codes "approved", Some (boolean approved)) ∷ (codes "host", Some (string host))
    ∷ (codes "package", Some (string name)) ∷ []) (least 3, (least 3, (least 3, tt)))
shallow (asks.ForceStop name) = one_flat (codes "package") (string name) (least 3)
shallow (asks.Advance by) = one_flat (codes "by") (natural by) (least 3)
shallow (asks.History from) = one_flat (codes "from") (natural from) (least 3)
shallow _ = within_four [] tt

-- the value of a request is one that a text may nest
pub request_within : (r : Request) → depth (request_data r) ≤ max_depth
request_within r = omega (arith, shallow r)
