-- The filter test: whether an intent passes an intent filter, and the first reason why not.
use Rattle.std.specs.Prelude.{ℕ, Bool, true, false, not, ◌&&◌, ◌||◌, ◌==◌, codes, List, [], ◌∷◌, if◌then◌else◌, Option, Some, None, is_none}
use Rattle.std.specs.List.{list_any, list_all}
use Rattle.am_types.specs.declared.device.Rules.{Rules}
use Rattle.am_types.specs.declared.device.Rules.TheVariants.{Profile, Android12}
use Rattle.am_types.specs.declared.intent.Intent.{Intent}
use Rattle.am_types.specs.declared.uri.Uri.{Uri}
use Rattle.am_types.specs.declared.uri.UriParts.{UriParts}
use Rattle.am_types.specs.declared.uri.Mime.{Mime}
use Rattle.am_types.specs.declared.filter.Authority.{Authority}
use Rattle.am_types.specs.declared.filter.Filter.{Filter}
use Rattle.am_types.specs.declared.filter.Why.{Why}
use Rattle.am_types.specs.declared.filter.Why.TheVariants.{Action, Scheme, Host, Path, Type_, Category}
use Rattle.am_types.specs.Uris.{parts_by}
use Rattle.am_model.specs.Texts.{is_same, lists, ends_with, lowered}
use Rattle.am_model.specs.MimeTypes.{passes_type}
use Rattle.am_model.specs.Paths.{passes_path}

-- the category that an implicit start needs
abbrev pub default_category : List ℕ
default_category = codes "android.intent.category.DEFAULT"

-- nothing is listed
abbrev pub is_empty : {X : Type 0} → List X → Bool
is_empty [] = true
is_empty (first ∷ others) = false

-- the reason, unless the test holds
abbrev pub unless : Bool → Why → Option Why
unless true reason = None
unless false reason = Some reason

-- the first of two reasons
abbrev pub or_else : Option Why → Option Why → Option Why
or_else (Some reason) other = Some reason
or_else None other = other

-- the profile: the filter lists some action, and the intent's, if it has one
abbrev pub profile_passes_action : List (List ℕ) → Option (List ℕ) → Bool
profile_passes_action [] action = false
profile_passes_action (first ∷ others) None = true
profile_passes_action (first ∷ others) (Some action) = lists (first ∷ others) action

-- a phone: the filter lists the intent's action, if it has one
abbrev pub phone_passes_action : List (List ℕ) → Option (List ℕ) → Bool
phone_passes_action listed None = true
phone_passes_action listed (Some action) = lists listed action

-- the filter passes the test of its actions
abbrev pub passes_action : Rules → List (List ℕ) → Option (List ℕ) → Bool
passes_action Profile listed action = profile_passes_action listed action
passes_action Android12 listed action = phone_passes_action listed action

-- a filter's host that begins with a star stands for each host with that end
abbrev pub has_host : List ℕ → List ℕ → Bool
has_host [] host = is_empty host
has_host (first ∷ end) host = if first == 42 then ends_with host end else is_same (first ∷ end) host

-- the authority has no port, or the URI's
abbrev pub has_port : Option ℕ → Option ℕ → Bool
has_port None port = true
has_port (Some listed) None = false
has_port (Some listed) (Some port) = listed == port

-- the URI has a host, and it is the authority's, with ASCII case ignored; and so is the port
abbrev pub passes_authority : Authority → Option (List ℕ) → Option ℕ → Bool
passes_authority authority None port = false
passes_authority authority (Some host) port =
    has_host (lowered authority.host) (lowered host) && has_port authority.port port

-- some authority passes, if one is listed
abbrev pub passes_authorities : List Authority → UriParts → Bool
passes_authorities authorities parts =
    is_empty authorities || list_any (λ (a : Authority). passes_authority a parts.host parts.port) authorities

-- some path rule passes, if one counts: paths count only beside an authority
abbrev pub passes_paths : Rules → Filter → UriParts → Bool
passes_paths rules filter parts =
    (is_empty filter.authorities || is_empty filter.paths)
    || list_any (λ rule. passes_path rules rule parts.path) filter.paths

-- why the URI doesn't pass: the scheme, then the host, then the path
abbrev pub uri_why : Rules → Filter → Uri → Option Why
uri_why rules filter uri =
    or_else (unless (lists filter.schemes uri.scheme) Scheme)
    (or_else (unless (passes_authorities filter.authorities (parts_by rules uri)) Host)
    (unless (passes_paths rules filter (parts_by rules uri)) Path))

-- a URI of content on the device itself
abbrev pub is_local : Uri → Bool
is_local uri = is_same uri.scheme (codes "content") || is_same uri.scheme (codes "file")

-- why the URI of an intent with a type doesn't pass: a filter without schemes takes local content
abbrev pub typed_uri_why : Rules → Filter → Uri → Option Why
typed_uri_why rules filter uri = if is_empty filter.schemes && is_local uri then None else uri_why rules filter uri

-- why the data of an intent, its URI and its type, doesn't pass
abbrev pub data_why : Rules → Filter → Option Uri → Option Mime → Option Why
data_why rules filter None None =
    or_else (unless (is_empty filter.schemes) Scheme) (unless (is_empty filter.types) Type_)
data_why rules filter (Some uri) None = or_else (uri_why rules filter uri) (unless (is_empty filter.types) Type_)
data_why rules filter None (Some mime) =
    or_else (unless (is_empty filter.schemes) Scheme) (unless (passes_type filter.types mime) Type_)
data_why rules filter (Some uri) (Some mime) =
    or_else (typed_uri_why rules filter uri) (unless (passes_type filter.types mime) Type_)

-- the filter lists each category of the intent, and the default one if that is needed
abbrev pub passes_categories : List (List ℕ) → List (List ℕ) → Bool → Bool
passes_categories listed categories need_default =
    list_all (λ category. lists listed category) categories && (not need_default || lists listed default_category)

-- why the intent doesn't pass the filter: the first of the tests on its action, data and categories that fails
abbrev pub why : Rules → Filter → Intent → Bool → Option Why
why rules filter intent need_default =
    or_else (unless (passes_action rules filter.actions intent.action) Action)
    (or_else (data_why rules filter intent.uri intent.mime)
    (unless (passes_categories filter.categories intent.categories need_default) Category))

-- the intent passes the filter
abbrev pub passes : Rules → Filter → Intent → Bool → Bool
passes rules filter intent need_default = is_none (why rules filter intent need_default)
