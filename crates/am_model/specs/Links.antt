-- How a phone narrows a web intent, and which of several activities opens.
use Rattle.std.specs.Prelude.{ℕ, ℤ, pos, int_lt, ◌-◌, Bool, true, false, not, ◌&&◌, ◌||◌, ◌==◌, nat_le, nat_lt, codes, chars, List, [], ◌∷◌, length, map, drop, filter, if◌then◌else◌, Option, Some, None, is_none, is_some}
use Rattle.std.specs.Char.{is_ascii_alphabetic, is_ascii_alphanumeric, is_ascii_digit}
use Rattle.std.specs.Int.{int_max}
use Rattle.std.specs.Int.Digits.{number_from_digits}
use Rattle.std.specs.List.{list_any, list_all}
use Rattle.am_types.specs.declared.device.Rules.TheVariants.{Android12}
use Rattle.am_types.specs.declared.intent.Intent.{Intent}
use Rattle.am_types.specs.declared.uri.Uri.{Uri}
use Rattle.am_types.specs.declared.filter.Authority.{Authority}
use Rattle.am_types.specs.declared.filter.Filter.{Filter}
use Rattle.am_types.specs.declared.manifest.Kind.TheVariants.{Activity}
use Rattle.am_types.specs.declared.manifest.Decl.{Decl}
use Rattle.am_types.specs.declared.device.Package.{Package}
use Rattle.am_types.specs.declared.device.Link.{Link}
use Rattle.am_types.specs.declared.resolve.Candidate.{Candidate}
use Rattle.am_types.specs.declared.resolve.Hit.{Hit}
use Rattle.am_types.specs.declared.resolve.Target.{Target}
use Rattle.am_types.specs.declared.resolve.Target.TheVariants.{Nothing, One, Choose}
use Rattle.am_model.specs.Texts.{begins_with, ends_with, is_same, lists, lowered}
use Rattle.am_model.specs.Filters.{default_category, is_empty}
use Rattle.am_model.specs.Intents.{is_same_component}
use Rattle.am_model.specs.Boards.{Board, package_at}
use Rattle.am_model.specs.Candidates.{is_kind, is_web_scheme}
use Rattle.am_model.specs.Gates.{Verdict, Admit, NotExported, NeedsPermission, verdict}
use Rattle.am_model.specs.Receivers.{declared}
use Rattle.am_model.specs.Targets.{choice, is_view, is_web_category, top, web_host}

-- the URI, if there is one, is that of a web page
abbrev pub has_web_scheme : Option Uri → Bool
has_web_scheme None = false
has_web_scheme (Some uri) = is_web_scheme uri.scheme

-- the intent has the URI of a web page, and names neither a component nor a package
abbrev pub is_web : Intent → Bool
is_web intent = (has_web_scheme intent.uri && is_none intent.component) && is_none intent.«package»

-- the parts of a host with one more byte in front
abbrev pub with_byte : ℕ → List (List ℕ) → List (List ℕ)
with_byte b [] = (b ∷ []) ∷ []
with_byte b (first ∷ others) = (b ∷ first) ∷ others

-- the parts of a host, between its dots
abbrev pub parts_of : List ℕ → List (List ℕ)
parts_of [] = [] ∷ []
parts_of (b ∷ others) = if b == 46 then [] ∷ parts_of others else with_byte b (parts_of others)

-- a letter of any script: each byte beyond ASCII counts as one
abbrev pub is_letter : ℕ → Bool
is_letter b = is_ascii_alphabetic b || nat_le 128 b

-- a letter of any script, a digit or a hyphen
abbrev pub is_domain_byte : ℕ → Bool
is_domain_byte b = (is_letter b || is_ascii_digit b) || (b == 45)

-- a part of a domain's name
abbrev pub is_domain_part : List ℕ → Bool
is_domain_part part = not (is_empty part) && list_all is_domain_byte part

-- the last part of a domain's name: two letters or more, or one that is written in ASCII for letters of another script
abbrev pub is_top_part : List ℕ → Bool
is_top_part part = (nat_le 2 (length (chars part)) && list_all is_letter part) || begins_with part (codes "xn--")

-- the parts of a domain's name, the last of which is there
abbrev pub are_domain_parts : List (List ℕ) → Bool
are_domain_parts [] = false
are_domain_parts (part ∷ []) = is_domain_part part && is_top_part part
are_domain_parts (part ∷ next ∷ others) = is_domain_part part && are_domain_parts (next ∷ others)

-- a number from 0 to 255 of at most three digits
abbrev pub is_octet : List ℕ → Bool
is_octet part =
    ((not (is_empty part) && nat_le (length part) 3) && list_all is_ascii_digit part)
    && nat_le (number_from_digits 10 (map (λ b. b - 48) part)) 255

-- a domain's name of at least two parts, or an IPv4 address
abbrev pub is_domain : List ℕ → Bool
is_domain host =
    (nat_le 2 (length (parts_of host)) && are_domain_parts (parts_of host))
    || ((length (parts_of host) == 4) && list_all is_octet (parts_of host))

-- a host that is a domain, if there is one
abbrev pub domain_in : Option (List ℕ) → Option (List ℕ)
domain_in None = None
domain_in (Some host) = if is_domain host then Some host else None

-- the default category is asked for: by a query for nothing else, or by the intent
abbrev pub asks_default : Intent → Bool → Bool
asks_default intent default_only = default_only || lists intent.categories default_category

-- the host of a link: what a web intent views, if it asks for the default category and has no category of another kind
abbrev pub link_host : Intent → Bool → Option (List ℕ)
link_host intent default_only =
    if (is_view intent.action && list_all is_web_category intent.categories) && asks_default intent default_only
    then domain_in (web_host Android12 intent.uri)
    else None

-- the filter asks to view web pages of that host, which an approval needs
abbrev pub declares_host : List ℕ → Filter → Bool
declares_host host filter =
    ((lists filter.actions (codes "android.intent.action.VIEW")
    && lists filter.categories (codes "android.intent.category.BROWSABLE"))
    && list_any is_web_scheme filter.schemes)
    && list_any (λ (a : Authority). is_same (lowered a.host) (lowered host)) filter.authorities

-- an activity of the package has such a filter
abbrev pub declares_link : List ℕ → Package → Bool
declares_link host owner =
    list_any (λ (decl : Decl). is_kind Activity decl.kind && list_any (declares_host host) decl.filters) owner.decls

-- the same of the package of a uid, if there is one
abbrev pub declares_link_at : List ℕ → Option Package → Bool
declares_link_at host None = false
declares_link_at host (Some owner) = declares_link host owner

-- the host of an approval is the host; or a star, a dot and an end of it
abbrev pub covers : List ℕ → List ℕ → Bool
covers approved host =
    is_same (lowered approved) (lowered host)
    || (begins_with approved (codes "*.") && ends_with (lowered host) (lowered (drop 2 approved)))

-- the approval is the uid's, covers the host, and is of a host that an activity of the package asks for
abbrev pub counts_for : List Package → List ℕ → ℕ → Link → Bool
counts_for packages host uid link =
    ((link.uid == uid) && covers link.host host) && declares_link_at link.host (package_at packages uid)

-- the package of the uid is approved for the host
abbrev pub is_approved_for : Board → List ℕ → ℕ → Bool
is_approved_for board host uid = list_any (counts_for board.packages host uid) board.links

-- an activity that isn't a browser, of a package that is approved for the host
abbrev pub takes_link : Board → List ℕ → Candidate → Bool
takes_link board host candidate = not candidate.finding.browses && is_approved_for board host candidate.hit.uid

-- the hit's package was installed later, or is the same and declares it later
abbrev pub is_later : Hit → Hit → Bool
is_later hit other = nat_lt other.uid hit.uid || ((hit.uid == other.uid) && nat_lt other.place hit.place)

-- the later of a hit and another, if there is one
abbrev pub later_of : Hit → Option Hit → Hit
later_of hit None = hit
later_of hit (Some other) = if is_later other hit then other else hit

-- the last of some candidates, if there are any
abbrev pub last_of : List Candidate → Option Hit
last_of [] = None
last_of (first ∷ others) = Some (later_of first.hit (last_of others))

-- the activity that a link to the host opens, if a package is approved for it
abbrev pub approved_hit : Board → List Candidate → Option (List ℕ) → Option Hit
approved_hit board found None = None
approved_hit board found (Some host) = last_of (filter (takes_link board host) found)

-- the browsers among the candidates
abbrev pub browsers_of : List Candidate → List Candidate
browsers_of found = filter (λ (c : Candidate). c.finding.browses) found

-- the greatest priority of some candidates, at least 0
abbrev pub greatest_of : List Candidate → ℤ
greatest_of [] = pos 0
greatest_of (first ∷ others) = int_max first.hit.priority (greatest_of others)

-- the first of some candidates that is of the package
abbrev pub first_of_package : List ℕ → List Candidate → Option Hit
first_of_package name [] = None
first_of_package name (first ∷ others) =
    if is_same first.hit.component.«package» name then Some first.hit else first_of_package name others

-- the hit, if it has at least that priority
abbrev pub unless_below : ℤ → Option Hit → Option Hit
unless_below most None = None
unless_below most (Some hit) = if int_lt hit.priority most then None else Some hit

-- the device's browser, if it is among the browsers with a priority that none of them exceeds
abbrev pub chosen_browser : Option (List ℕ) → List Candidate → Option Hit
chosen_browser None browsers = None
chosen_browser (Some name) browsers = unless_below (greatest_of browsers) (first_of_package name browsers)

-- the hit is that one
abbrev pub is_hit : Hit → Hit → Bool
is_hit one hit = is_same_component one.component hit.component

-- an activity that isn't a browser is left: always if the intent is no link; else if it is the approved one
abbrev pub keeps_app : Bool → Option Hit → Hit → Bool
keeps_app false approved hit = true
keeps_app true None hit = false
keeps_app true (Some last) hit = is_hit last hit

-- a browser is left: if no activity is approved, all, or the chosen one
abbrev pub keeps_browser : Option Hit → Option Hit → Hit → Bool
keeps_browser (Some last) chosen hit = false
keeps_browser None None hit = true
keeps_browser None (Some browser) hit = is_hit browser hit

-- what decides which candidates of a web intent are left: whether it is a link, the activity that is approved for it, and
-- the chosen browser
pub record Leading : Type 0 where
  pub is_link : Bool
  pub approved : Option Hit
  pub browser : Option Hit

-- what decides for an intent of these candidates
abbrev pub leading : Board → Intent → Bool → List Candidate → Leading
leading board intent default_only found = record {
  is_link = is_some (link_host intent default_only);
  approved = approved_hit board found (link_host intent default_only);
  browser = chosen_browser board.browser (browsers_of found);
}

-- the candidate is left
abbrev pub is_left : Leading → Candidate → Bool
is_left leads candidate =
    if candidate.finding.browses
    then keeps_browser leads.approved leads.browser candidate.hit
    else keeps_app leads.is_link leads.approved candidate.hit

-- what decides, unless it left none of the candidates
abbrev pub unless_none_left : Leading → List Candidate → Option Leading
unless_none_left leads found = if list_any (is_left leads) found then Some leads else None

-- what decides for the candidates of an intent, if they are narrowed: an intent that isn't web isn't, nor is one that has
-- a single candidate
abbrev pub leading_of : Board → Intent → Bool → List Candidate → Option Leading
leading_of board intent default_only [] = None
leading_of board intent default_only (one ∷ []) = None
leading_of board intent default_only (one ∷ other ∷ others) =
    if is_web intent
    then unless_none_left (leading board intent default_only (one ∷ other ∷ others)) (one ∷ other ∷ others)
    else None

-- the candidates that are left, if something decides
abbrev pub left_of : Option Leading → List Candidate → List Candidate
left_of None found = found
left_of (Some leads) found = filter (is_left leads) found

-- the candidates that a phone's narrowing leaves, in their order
abbrev pub phone_narrowed : Board → Intent → Bool → List Candidate → List Candidate
phone_narrowed board intent default_only found = left_of (leading_of board intent default_only found) found

-- the verdict admits
abbrev pub admits : Verdict → Bool
admits Admit = true
admits NotExported = false
admits (NeedsPermission permission) = false

-- the caller may start the component, if it is there
abbrev pub may_start_decl : Board → ℕ → Option (ℕ × Decl) → Bool
may_start_decl board caller None = false
may_start_decl board caller (Some found) =
    admits (verdict board.grants caller found.0 found.1.exported found.1.permission)

-- the caller may start the activity
abbrev pub may_start : Board → ℕ → Hit → Bool
may_start board caller hit = may_start_decl board caller (declared board.packages Activity hit.component)

-- the first, unless the user would have to choose; then the other
abbrev pub unless_tied : Target → Target → Target
unless_tied Nothing other = Nothing
unless_tied (One hit) other = One hit
unless_tied (Choose several) other = other

-- which of the hits, which come by falling priority, a start of the caller reaches: the one of greatest priority; or, if
-- several share it, of those that the caller may start the one of greatest priority, or several to choose from
abbrev pub phone_choice : Board → ℕ → List Hit → Target
phone_choice board caller found = unless_tied (choice (top found)) (choice (top (filter (may_start board caller) found)))
