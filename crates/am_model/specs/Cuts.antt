-- Which filters an intent finds, in which order a phone comes upon them, and what an intent reaches in one.
use Rattle.std.specs.Prelude.{ℕ, Bool, true, false, not, ◌&&◌, List, [], ◌∷◌, if◌then◌else◌, Option, Some, None, is_none, is_some}
use Rattle.std.specs.List.{list_any}
use Rattle.std.specs.Option.{option_or}
use Rattle.am_types.specs.declared.device.Rules.{Rules}
use Rattle.am_types.specs.declared.device.Rules.TheVariants.{Profile, Android12}
use Rattle.am_types.specs.declared.filter.Authority.{Authority}
use Rattle.am_types.specs.declared.filter.Filter.{Filter}
use Rattle.am_types.specs.declared.filter.Why.{Why}
use Rattle.am_types.specs.declared.filter.Why.TheVariants.{Action}
use Rattle.am_types.specs.declared.intent.Intent.{Intent}
use Rattle.am_types.specs.declared.uri.Mime.{Mime}
use Rattle.am_types.specs.declared.uri.Uri.{Uri}
use Rattle.am_types.specs.declared.uri.UriParts.{UriParts}
use Rattle.am_model.specs.Texts.{is_same, lists}
use Rattle.am_model.specs.MimeTypes.{is_any, is_any_type}
use Rattle.am_model.specs.Filters.{is_empty, or_else, passes_authority, unless, why}

-- the type is one of that main part: each such type, or none that stands for all of them
abbrev pub is_of_main : List ℕ → Mime → Bool
is_of_main main mime = is_same mime.main main && not (is_any mime.sub)

-- the type stands for all of that main part
abbrev pub is_all_of : List ℕ → Mime → Bool
is_all_of main mime = is_same mime.main main && is_any mime.sub

-- the filter lists the type itself; or, of a type that stands for all of a main part, one of these
abbrev pub lists_type : List Mime → Mime → Bool
lists_type types mime =
    if is_any mime.sub
    then list_any (is_of_main mime.main) types
    else list_any (λ (m : Mime). is_same m.main mime.main && is_same m.sub mime.sub) types

-- where filters are found by a type that has a main part: first those that list the type, then those that list all of
-- its main part, then those that list every type
abbrev pub cut_by_type : List Mime → Mime → Option ℕ
cut_by_type types mime =
    if lists_type types mime then Some 0
    else if list_any (is_all_of mime.main) types then Some 1
    else if list_any is_any_type types then Some 2
    else None

-- where filters are found by a type whose main part stands for every other: by the action, if they list some type
abbrev pub cut_by_any_type : Filter → Option (List ℕ) → Option ℕ
cut_by_any_type filter None = None
cut_by_any_type filter (Some action) =
    if lists filter.actions action && not (is_empty filter.types) then Some 0 else None

-- where filters are found by a type
abbrev pub cut_of_type : Filter → Option (List ℕ) → Mime → Option ℕ
cut_of_type filter action mime =
    if is_any mime.main then cut_by_any_type filter action else cut_by_type filter.types mime

-- where filters are found by a URI's scheme: behind those that are found by a type
abbrev pub cut_of_scheme : Filter → Uri → Option ℕ
cut_of_scheme filter uri = if lists filter.schemes uri.scheme then Some 3 else None

-- where filters are found by an action
abbrev pub cut_of_action : Filter → Option (List ℕ) → Option ℕ
cut_of_action filter None = None
cut_of_action filter (Some action) = if lists filter.actions action then Some 3 else None

-- where a filter is found: by type and scheme; by an action only if there is neither type nor URI
abbrev pub cut_of_data : Filter → Option (List ℕ) → Option Uri → Option Mime → Option ℕ
cut_of_data filter action None None = cut_of_action filter action
cut_of_data filter action (Some uri) None = cut_of_scheme filter uri
cut_of_data filter action None (Some mime) = cut_of_type filter action mime
cut_of_data filter action (Some uri) (Some mime) =
    option_or (cut_of_type filter action mime) (cut_of_scheme filter uri)

-- the first, if the intent names a package; else where its data find the filter
abbrev pub cut_in : Option (List ℕ) → Option ℕ → Option ℕ
cut_in (Some name) by_data = Some 0
cut_in None by_data = by_data

-- where a phone finds a filter of an app by the intent, if it does: lower numbers come first, and within one the
-- filters in the manifest's order. Each filter of a package that the intent names is tested
abbrev pub cut_of : Filter → Intent → Option ℕ
cut_of filter intent = cut_in intent.«package» (cut_of_data filter intent.action intent.uri intent.mime)

-- why an app's filter isn't found: it isn't passed, or a phone doesn't come upon it
abbrev pub unfound_why : Rules → Filter → Intent → Bool → Option Why
unfound_why Profile filter intent need_default = why Profile filter intent need_default
unfound_why Android12 filter intent need_default =
    or_else (why Android12 filter intent need_default) (unless (is_some (cut_of filter intent)) Action)

-- the same for the filter of a registered receiver, which a phone finds as if the intent named no package
abbrev pub unheard_why : Rules → Filter → Intent → Option Why
unheard_why Profile filter intent = why Profile filter intent false
unheard_why Android12 filter intent =
    or_else (why Android12 filter intent false)
    (unless (is_some (cut_of_data filter intent.action intent.uri intent.mime)) Action)

-- the intent finds the app's filter
abbrev pub finds : Rules → Filter → Intent → Bool → Bool
finds rules filter intent need_default = is_none (unfound_why rules filter intent need_default)

-- the intent finds the registered receiver's filter
abbrev pub hears : Rules → Filter → Intent → Bool
hears rules filter intent = is_none (unheard_why rules filter intent)

-- what a URI reaches by an authority with that port: a host, or a host and a port
abbrev pub reached_by_port : Option ℕ → ℕ
reached_by_port None = 3
reached_by_port (Some port) = 4

-- what a URI reaches in the authorities of a filter, by the first that passes
abbrev pub reached_by_authority : List Authority → UriParts → ℕ
reached_by_authority [] parts = 3
reached_by_authority (first ∷ others) parts =
    if passes_authority first parts.host parts.port then reached_by_port first.port
    else reached_by_authority others parts

-- what a URI reaches in a filter that lists schemes: the scheme, an authority, or a path
abbrev pub reached_by_uri : Filter → UriParts → ℕ
reached_by_uri filter parts =
    if is_empty filter.authorities then 2
    else if is_empty filter.paths then reached_by_authority filter.authorities parts
    else 5

-- what the data of an intent reach in a filter that they pass and that lists no type, from low to high: no data, a
-- scheme, a host, a host and a port, a path
abbrev pub reached_by_data : Filter → Option Uri → ℕ
reached_by_data filter None = 1
reached_by_data filter (Some uri) = reached_by_uri filter uri.phone

-- what the data of an intent reach on a phone in a filter that they pass: a type above all, if it lists types
abbrev pub reached : Filter → Option Uri → ℕ
reached filter uri = if is_empty filter.types then reached_by_data filter uri else 6
