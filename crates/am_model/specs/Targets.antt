-- How the profile narrows a web intent, and which of several hits count.
use Rattle.std.specs.Prelude.{ℕ, Bool, true, false, ◌&&◌, ◌||◌, ◌==◌, codes, List, [], ◌∷◌, filter, if◌then◌else◌, Option, Some, None, is_none}
use Rattle.std.specs.List.{list_any, list_all, take_while}
use Rattle.std.specs.Ordering.{int_eq}
use Rattle.am_types.specs.declared.device.Rules.{Rules}
use Rattle.am_types.specs.declared.device.Rules.TheVariants.{Profile}
use Rattle.am_types.specs.declared.intent.Intent.{Intent}
use Rattle.am_types.specs.declared.uri.Uri.{Uri}
use Rattle.am_types.specs.declared.filter.Filter.{Filter}
use Rattle.am_types.specs.declared.manifest.Decl.{Decl}
use Rattle.am_types.specs.declared.device.Package.{Package}
use Rattle.am_types.specs.declared.device.Link.{Link}
use Rattle.am_types.specs.declared.resolve.Hit.{Hit}
use Rattle.am_types.specs.declared.resolve.Target.{Target}
use Rattle.am_types.specs.declared.resolve.Target.TheVariants.{Nothing, One, Choose}
use Rattle.am_types.specs.Uris.{parts_by}
use Rattle.am_model.specs.Texts.{is_same, lowered}
use Rattle.am_model.specs.Filters.{default_category, is_empty, passes}
use Rattle.am_model.specs.Boards.{Board}
use Rattle.am_model.specs.Candidates.{is_web_scheme}

-- a host that isn't empty, if there is one
abbrev pub named_host : Option (List ℕ) → Option (List ℕ)
named_host None = None
named_host (Some host) = if is_empty host then None else Some host

-- the host of a web page by the device's rules, if the URI is one's and has a nonempty host
abbrev pub web_host : Rules → Option Uri → Option (List ℕ)
web_host rules None = None
web_host rules (Some uri) = if is_web_scheme uri.scheme then named_host (parts_by rules uri).host else None

-- the action is to view
abbrev pub is_view : Option (List ℕ) → Bool
is_view None = false
is_view (Some action) = is_same action (codes "android.intent.action.VIEW")

-- a category that a web intent may have
abbrev pub is_web_category : List ℕ → Bool
is_web_category category = is_same category (codes "android.intent.category.BROWSABLE") || is_same category
    default_category

-- the profile: the host of a web intent, one that asks to view a web page, by no other categories and for no named app
abbrev pub host_to_view : Intent → Option (List ℕ)
host_to_view intent =
    if ((is_view intent.action && list_all is_web_category intent.categories) && is_none intent.component) && is_none
    intent.«package»
    then web_host Profile intent.uri
    else None

-- the package of the uid is approved for the host, with ASCII case ignored
abbrev pub approves : List Link → List ℕ → ℕ → Bool
approves links host uid = list_any (λ (link : Link). (link.uid == uid) && is_same (lowered link.host) (lowered host))
    links

-- the hit's package is approved for the host
abbrev pub is_approved : List Link → List ℕ → Hit → Bool
is_approved links host hit = approves links host hit.uid

-- a filter that the intent passes and that lists no authority
abbrev pub takes_any_host : Intent → Filter → Bool
takes_any_host intent filter = passes Profile filter intent true && is_empty filter.authorities

-- the hit is the component that a package declares
abbrev pub is_hit_of : Package → Decl → Hit → Bool
is_hit_of owner decl hit = (owner.uid == hit.uid) && is_same decl.class hit.component.class

-- some filter of the hit's component that the intent passes lists no authority
abbrev pub is_general : List Package → Intent → Hit → Bool
is_general packages intent hit =
    list_any (λ (owner : Package). list_any (λ (decl : Decl).
    is_hit_of owner decl hit && list_any (takes_any_host intent) decl.filters) owner.decls) packages

-- the hits of the browser that the device names; if it names none, those that take any host
abbrev pub browser_hits : Board → Intent → List Hit → Option (List ℕ) → List Hit
browser_hits board intent found (Some browser) = filter (λ (hit : Hit). is_same hit.component.«package» browser) found
browser_hits board intent found None = filter (is_general board.packages intent) found

-- the hits of packages that are approved for the host; if there are none, those of a browser
abbrev pub web_hits : Board → Intent → List Hit → List ℕ → List Hit
web_hits board intent found host =
    if list_any (is_approved board.links host) found
    then filter (is_approved board.links host) found
    else browser_hits board intent found board.browser

-- the hits that are left after narrowing, which only a web intent undergoes
abbrev pub profile_narrowed : Board → Intent → List Hit → Option (List ℕ) → List Hit
profile_narrowed board intent found None = found
profile_narrowed board intent found (Some host) = web_hits board intent found host

-- of the hits, which come by falling priority, those that share the greatest one
abbrev pub top : List Hit → List Hit
top [] = []
top (first ∷ others) = take_while (λ (hit : Hit). int_eq hit.priority first.priority) (first ∷ others)

-- none, one, or several among which the user must choose
abbrev pub choice : List Hit → Target
choice [] = Nothing
choice (hit ∷ []) = One hit
choice (hit ∷ other ∷ others) = Choose (hit ∷ other ∷ others)
