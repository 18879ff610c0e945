-- Which keys an intent asks for, and what is found at the spots listed there.
use Rattle.std.specs.Prelude.{ℕ, ◌+◌, Bool, ◌&&◌, ◌||◌, ◌==◌, nat_lt, List, [], ◌∷◌, ◌++◌, map, codes, slice_get, count_by, Vec, Option, Some, None, if◌then◌else◌, ℤ, pos}
use Rattle.std.specs.HashMap.{HashMap}
use Rattle.std.specs.Cmp.Lexicographic.{slice_cmp}
use Rattle.std.specs.Ordering.{nat_cmp, ordering_then}
use Rattle.std.specs.declared.alloc.Global.{Global}
use Rattle.std.specs.declared.cmp.Ordering.{Ordering}
use Rattle.am_types.specs.declared.device.Package.{Package}
use Rattle.am_types.specs.declared.device.Rules.{Rules}
use Rattle.am_types.specs.declared.intent.Component.{Component}
use Rattle.am_types.specs.declared.intent.Intent.{Intent}
use Rattle.am_types.specs.declared.manifest.Decl.{Decl}
use Rattle.am_types.specs.declared.manifest.Kind.{Kind}
use Rattle.am_types.specs.declared.resolve.Candidate.{Candidate}
use Rattle.am_types.specs.declared.resolve.Finding.{Finding}
use Rattle.am_types.specs.declared.uri.Uri.{Uri}
use Rattle.am_types.specs.declared.uri.Mime.{Mime}
use Rattle.am_model.specs.Boards.{package_at}
use Rattle.am_model.specs.Candidates.{Search, candidate_at, finding_in, first_of_two, plain_finding}
use Rattle.am_model.specs.MimeTypes.{is_any_type}
use Rattle.am_index.specs.declared.key.Group.{Group}
use Rattle.am_index.specs.declared.key.Group.TheVariants.{Class, Action, Scheme, Bare, Typed, Main}
use Rattle.am_index.specs.declared.key.Key.{Key}
use Rattle.am_index.specs.declared.key.Spot.{Spot}
use Rattle.am_index.specs.declared.search.Search.{Search as Asked}
use Rattle.am_index.specs.Groups.{in_group}
use Rattle.am_index.specs.Lists.{spots_at}

-- the groups of a type: all types if it covers every other type; otherwise the types with its main part, and those
-- whose main part covers every other
abbrev pub type_groups : Mime → List Group
type_groups mime = if is_any_type mime then Typed ∷ [] else Main mime.main ∷ Main (codes "*") ∷ []

-- the groups of the data of an intent without an action: of its scheme and of its type, as far as it has them
abbrev pub data_groups_for : Option Uri → Option Mime → List Group
data_groups_for None None = Bare ∷ []
data_groups_for (Some uri) None = Scheme uri.scheme ∷ []
data_groups_for None (Some mime) = type_groups mime
data_groups_for (Some uri) (Some mime) = Scheme uri.scheme ∷ type_groups mime

-- the groups of an intent: of the class that it names, otherwise of its action, otherwise of its data
abbrev pub groups_for : Option Component → Option (List ℕ) → Option Uri → Option Mime → List Group
groups_for (Some component) action uri mime = Class component.class ∷ []
groups_for None (Some action) uri mime = Action action ∷ []
groups_for None None uri mime = data_groups_for uri mime

-- the package that an intent names, through its component or directly
abbrev pub owner_of : Option Component → Option (List ℕ) → Option (List ℕ)
owner_of (Some component) limited = Some component.«package»
owner_of None limited = limited

-- the key of a group
abbrev pub key_of : Kind → Option (List ℕ) → Group → Key
key_of kind owner group = record { kind = kind; owner = owner; group = group }

-- the keys that an intent asks for
abbrev pub keys_of : Kind → Intent → List Key
keys_of kind intent =
    map (key_of kind (owner_of intent.component intent.«package»))
    (groups_for intent.component intent.action intent.uri intent.mime)

-- one spot comes before another: by uid, then by position
abbrev pub stands_before : Spot → Spot → Bool
stands_before a b = nat_lt a.uid b.uid || ((a.uid == b.uid) && nat_lt a.position b.position)

-- two spots are the same
abbrev pub same_spot : Spot → Spot → Bool
same_spot a b = (a.uid == b.uid) && (a.position == b.position)

-- the spots at the start that come before this one
abbrev pub spots_before : Spot → List Spot → List Spot
spots_before spot [] = []
spots_before spot (first ∷ others) = if stands_before first spot then first ∷ spots_before spot others else []

-- the spots without this one, if it is the first
abbrev pub without_first : Spot → List Spot → List Spot
without_first spot [] = []
without_first spot (first ∷ others) = if same_spot first spot then others else first ∷ others

-- the spots after those that come before this one, without it
abbrev pub spots_after : Spot → List Spot → List Spot
spots_after spot [] = []
spots_after spot (first ∷ others) =
    if stands_before first spot then spots_after spot others else without_first spot (first ∷ others)

-- the spots of two lists in order, each once
abbrev pub merged : List Spot → List Spot → List Spot
merged [] others = others
merged (first ∷ rest) others = spots_before first others ++ first ∷ merged rest (spots_after first others)

-- some spots, and those listed under some keys, in order, each once
abbrev pub with_keys : {S : Type 0} → HashMap Key (Vec Spot Global) S → List Spot → List Key → List Spot
with_keys lists spots [] = spots
with_keys lists spots (first ∷ others) = with_keys lists (merged spots (spots_at lists first)) others

-- what is listed for an intent
abbrev pub spots_for : {S : Type 0} → HashMap Key (Vec Spot Global) S → Kind → Intent → List Spot
spots_for lists kind intent = with_keys lists [] (keys_of kind intent)

-- what the code looks for, by some rules
abbrev pub search_by : Rules → Asked → Search
search_by rules asked = record {
  rules = rules;
  kind = asked.kind;
  intent = asked.intent.now;
  need_default = asked.need_default;
}

-- what the code looks for
abbrev pub search_of : Asked → Search
search_of asked = search_by asked.rules asked

-- the one of two findings that a phone comes upon first, if there are two
abbrev pub earlier : Option Finding → Finding → Finding
earlier None second = second
earlier (Some first) second = first_of_two first (Some second)

-- how a phone orders two candidates that only the package's name and the order of finding tell apart
abbrev pub then_name : Candidate → Candidate → Ordering
then_name a b =
    ordering_then (slice_cmp nat_cmp a.hit.component.«package» b.hit.component.«package»)
    (nat_cmp a.finding.cut b.finding.cut)

-- how it orders two that what is reached may tell apart
abbrev pub then_reach : Candidate → Candidate → Ordering
then_reach a b = ordering_then (nat_cmp b.finding.reaches a.finding.reaches) (then_name a b)

-- how the intent finds a component that is listed under one of its keys
abbrev pub finding_found : Search → Option Component → Decl → Option Finding
finding_found search (Some component) decl = Some (plain_finding (pos 0))
finding_found search None decl = finding_in search.rules search decl.filters

-- how many tests it takes to find that
abbrev pub cost_found : Option Component → Intent → Decl → ℕ
cost_found (Some component) intent decl = 0
cost_found None intent decl = count_by (in_group intent) decl.filters

-- the component at a position of a package
abbrev pub decl_in : Option Package → ℕ → Option Decl
decl_in None position = None
decl_in (Some owner) position = slice_get owner.decls position

-- what the intent finds in a package at a place
abbrev pub candidate_in : Search → Option Package → Option Decl → ℕ → List Candidate
candidate_in search (Some owner) (Some decl) place =
    candidate_at owner place decl (finding_found search search.intent.component decl)
candidate_in search _ _ place = []

-- what the intent finds at a spot
abbrev pub candidate_of_spot : Search → List Package → Spot → List Candidate
candidate_of_spot search packages spot =
    candidate_in search (package_at packages spot.uid) (decl_in (package_at packages spot.uid) spot.position) spot.place

-- what the intent finds at some spots
abbrev pub candidates_of_spots : Search → List Package → List Spot → List Candidate
candidates_of_spots search packages [] = []
candidates_of_spots search packages (first ∷ others) =
    candidate_of_spot search packages first ++ candidates_of_spots search packages others

-- how many tests a component takes
abbrev pub cost_in : Option Decl → Intent → ℕ
cost_in None intent = 0
cost_in (Some decl) intent = cost_found intent.component intent decl

-- how many tests a spot takes
abbrev pub cost_of_spot : List Package → Intent → Spot → ℕ
cost_of_spot packages intent spot = cost_in (decl_in (package_at packages spot.uid) spot.position) intent

-- how many tests some spots take
abbrev pub cost_of_spots : List Package → Intent → List Spot → ℕ
cost_of_spots packages intent [] = 0
cost_of_spots packages intent (first ∷ others) = cost_of_spot packages intent first + cost_of_spots packages intent
    others
