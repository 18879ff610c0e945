-- Which components an intent finds, and in which order.
use Rattle.std.specs.Prelude.{ℕ, ◌+◌, nat_lt, Bool, true, false, ◌&&◌, ◌||◌, codes, List, [], ◌∷◌, ◌++◌, map, Option, Some, None, unwrap_or, if◌then◌else◌, ℤ, pos}
use Rattle.std.specs.Cmp.Lexicographic.{slice_cmp}
use Rattle.std.specs.Int.{int_min, int_max}
use Rattle.std.specs.List.{list_any}
use Rattle.std.specs.Option.{option_map}
use Rattle.std.specs.Ordering.{bool_cmp, int_cmp, is_lt, nat_cmp, ordering_then}
use Rattle.std.specs.declared.cmp.Ordering.{Ordering}
use Rattle.am_types.specs.declared.device.Rules.{Rules}
use Rattle.am_types.specs.declared.device.Rules.TheVariants.{Profile, Android12}
use Rattle.am_types.specs.declared.intent.Intent.{Intent}
use Rattle.am_types.specs.declared.intent.Component.{Component}
use Rattle.am_types.specs.declared.filter.Filter.{Filter}
use Rattle.am_types.specs.declared.manifest.Kind.{Kind}
use Rattle.am_types.specs.declared.manifest.Kind.TheVariants.{Activity, Service, Receiver}
use Rattle.am_types.specs.declared.manifest.Decl.{Decl}
use Rattle.am_types.specs.declared.device.Package.{Package}
use Rattle.am_types.specs.declared.resolve.Candidate.{Candidate}
use Rattle.am_types.specs.declared.resolve.Finding.{Finding}
use Rattle.am_types.specs.declared.resolve.Hit.{Hit}
use Rattle.am_model.specs.Lists.{falling_by, ordered}
use Rattle.am_model.specs.Texts.{is_same, lists}
use Rattle.am_model.specs.Filters.{default_category, is_empty, passes}
use Rattle.am_model.specs.Cuts.{cut_of, finds, reached}

-- two kinds are the same
abbrev pub is_kind : Kind → Kind → Bool
is_kind Activity Activity = true
is_kind Service Service = true
is_kind Receiver Receiver = true
is_kind _ _ = false

-- the priority with which a filter counts: no package is privileged, so an activity's never counts above 0
abbrev pub counted_priority : Kind → ℤ → ℤ
counted_priority Activity priority = int_min priority (pos 0)
counted_priority Service priority = priority
counted_priority Receiver priority = priority

-- the greater of a priority and of another, if there is one
abbrev pub greatest : ℤ → Option ℤ → ℤ
greatest priority None = priority
greatest priority (Some other) = int_max priority other

-- what is looked for, and by whose rules: components of a kind that the intent finds, and whether a filter must list
-- the default category
pub record Search : Type 0 where
  pub rules : Rules
  pub kind : Kind
  pub intent : Intent
  pub need_default : Bool

-- a component is found with that priority, and nothing else counts
abbrev pub plain_finding : ℤ → Finding
plain_finding priority =
    record { priority = priority; lists_default = false; reaches = 0; cut = 0; browses = false }

-- the greatest priority of the filters that the intent passes, if it passes one
abbrev pub priority_of : Search → List Filter → Option ℤ
priority_of search [] = None
priority_of search (first ∷ others) =
    if passes search.rules first search.intent search.need_default
    then Some (greatest (counted_priority search.kind first.priority) (priority_of search others))
    else priority_of search others

-- the scheme of web pages, with or without encryption
abbrev pub is_web_scheme : List ℕ → Bool
is_web_scheme scheme = is_same scheme (codes "http") || is_same scheme (codes "https")

-- the filter asks to view any web page
abbrev pub views_any_page : Filter → Bool
views_any_page filter =
    ((lists filter.actions (codes "android.intent.action.VIEW")
    && lists filter.categories (codes "android.intent.category.BROWSABLE"))
    && list_any is_web_scheme filter.schemes)
    && is_empty filter.authorities

-- the filter is a browser's: it says so, or asks to view any web page
abbrev pub is_browsers : Filter → Bool
is_browsers filter = lists filter.categories (codes "android.intent.category.APP_BROWSER") || views_any_page filter

-- a component is found by this filter
abbrev pub finding_by : Search → Filter → Finding
finding_by search filter = record {
  priority = counted_priority search.kind filter.priority;
  lists_default = lists filter.categories default_category;
  reaches = reached filter search.intent.uri;
  cut = unwrap_or (cut_of filter search.intent) 0;
  browses = is_browsers filter;
}

-- the one of two findings that comes first, where the other is by a later filter of the manifest
abbrev pub first_of_two : Finding → Option Finding → Finding
first_of_two finding None = finding
first_of_two finding (Some later) = if nat_lt later.cut finding.cut then later else finding

-- how a component is found by the first of its filters that a phone comes upon and that the intent passes, if there is
-- one
abbrev pub first_finding : Search → List Filter → Option Finding
first_finding search [] = None
first_finding search (first ∷ others) =
    if finds search.rules first search.intent search.need_default
    then Some (first_of_two (finding_by search first) (first_finding search others))
    else first_finding search others

-- how a component with these filters is found, if it is
abbrev pub finding_in : Rules → Search → List Filter → Option Finding
finding_in Profile search filters = option_map plain_finding (priority_of search filters)
finding_in Android12 search filters = first_finding search filters

-- the component has that name
abbrev pub is_named : Component → List ℕ → List ℕ → Bool
is_named component name class = is_same component.package name && is_same component.class class

-- the component, if it is found so, as a candidate
abbrev pub candidate_at : Package → ℕ → Decl → Option Finding → List Candidate
candidate_at owner place decl None = []
candidate_at owner place decl (Some finding) =
    record {
      hit = record {
        component = record { «package» = owner.name; class = decl.class };
        uid = owner.uid;
        place = place;
        priority = finding.priority;
      };
      finding = finding;
    } ∷ []

-- the component, if the intent finds a filter of it
abbrev pub implicit_candidate : Search → Package → ℕ → Decl → List Candidate
implicit_candidate search owner place decl =
    candidate_at owner place decl (finding_in search.rules search decl.filters)

-- the intent names no package, or this one
abbrev pub is_in : Option (List ℕ) → Package → Bool
is_in None owner = true
is_in (Some name) owner = is_same name owner.name

-- the component of a package that is found: the named one whatever its filters say, else one of the package that the
-- intent names, if it names one, if a filter is found
abbrev pub candidate_of : Search → Package → ℕ → Decl → Option Component → List Candidate
candidate_of search owner place decl (Some component) =
    if is_named component owner.name decl.class
    then candidate_at owner place decl (Some (plain_finding (pos 0)))
    else []
candidate_of search owner place decl None =
    if is_in search.intent.«package» owner then implicit_candidate search owner place decl else []

-- only an enabled component is found
abbrev pub enabled_candidate : Search → Package → ℕ → Decl → List Candidate
enabled_candidate search owner place decl =
    if decl.enabled then candidate_of search owner place decl search.intent.component else []

-- what is found among the components of the kind that follow that place, in their order
abbrev pub candidates_from : Search → Package → ℕ → List Decl → List Candidate
candidates_from search owner place [] = []
candidates_from search owner place (first ∷ others) =
    if is_kind search.kind first.kind
    then enabled_candidate search owner place first ++ candidates_from search owner (place + 1) others
    else candidates_from search owner place others

-- what each package has of what is looked for, in the order of the packages, then by place
abbrev pub candidates : Search → List Package → List Candidate
candidates search [] = []
candidates search (first ∷ others) = candidates_from search first 0 first.decls ++ candidates search others

-- the profile's order: by falling priority; ties keep their order
abbrev pub profile_order : List Candidate → List Candidate
profile_order found = falling_by (λ (c : Candidate). c.hit.priority) found

-- how a phone orders two candidates of equal priority: those whose filter lists the default category come first; then
-- those in which the intent's data reach more; then by the package's name; then as they are found
abbrev pub then_default : Candidate → Candidate → Ordering
then_default a b =
    ordering_then (bool_cmp b.finding.lists_default a.finding.lists_default)
    (ordering_then (nat_cmp b.finding.reaches a.finding.reaches)
    (ordering_then (slice_cmp nat_cmp a.hit.component.«package» b.hit.component.«package»)
    (nat_cmp a.finding.cut b.finding.cut)))

-- how a phone orders two candidates: by falling priority first
abbrev pub phone_cmp : Candidate → Candidate → Ordering
phone_cmp a b = ordering_then (int_cmp b.hit.priority a.hit.priority) (then_default a b)

-- a phone's order; ties keep their order
abbrev pub phone_order : List Candidate → List Candidate
phone_order found = ordered (λ (a b : Candidate). is_lt (phone_cmp a b)) found

-- the candidates in order
abbrev pub in_turn : Rules → List Candidate → List Candidate
in_turn Profile found = profile_order found
in_turn Android12 found = phone_order found

-- what is found of a kind by an intent, in order; an implicit one may need the default category
abbrev pub found_by : Rules → List Package → Kind → Intent → Bool → List Candidate
found_by rules packages kind intent need_default =
    in_turn rules
    (candidates (record { rules = rules; kind = kind; intent = intent; need_default = need_default }) packages)

-- the components that candidates are
abbrev pub hits_of : List Candidate → List Hit
hits_of candidates = map (λ (c : Candidate). c.hit) candidates

-- the hits of an intent
abbrev pub hits : Rules → List Package → Kind → Intent → Bool → List Hit
hits rules packages kind intent need_default = hits_of (found_by rules packages kind intent need_default)
