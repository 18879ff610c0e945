-- Which packages an app sees, by the queries of its manifest.
use Rattle.std.specs.Prelude.{ℕ, Bool, true, false, ◌&&◌, ◌||◌, ◌==◌, codes, List, [], ◌∷◌, filter, if◌then◌else◌, Option, Some, None, is_some}
use Rattle.std.specs.List.{list_any, list_all}
use Rattle.am_types.specs.declared.intent.Intent.{Intent}
use Rattle.am_types.specs.declared.uri.Mime.{Mime}
use Rattle.am_types.specs.declared.filter.Authority.{Authority}
use Rattle.am_types.specs.declared.filter.Filter.{Filter}
use Rattle.am_types.specs.declared.manifest.Kind.{Kind}
use Rattle.am_types.specs.declared.manifest.Decl.{Decl}
use Rattle.am_types.specs.declared.device.Package.{Package}
use Rattle.am_types.specs.declared.resolve.Hit.{Hit}
use Rattle.am_types.specs.declared.visible.Signature.{Signature}
use Rattle.am_types.specs.declared.visible.Queries.{Queries}
use Rattle.am_model.specs.Texts.{is_same, lists, lowered}
use Rattle.am_model.specs.Filters.{is_empty, has_host}
use Rattle.am_model.specs.MimeTypes.{passes_type}
use Rattle.am_model.specs.Boards.{Board, package_at}
use Rattle.am_model.specs.Starts.{query_hits}
use Rattle.am_model.specs.Gates.{holds, is_privileged}

-- the scheme that a signature asks for; with a type and without a scheme it is `content`
abbrev pub asked_scheme : Option (List ℕ) → Option Mime → Option (List ℕ)
asked_scheme (Some scheme) mime = Some scheme
asked_scheme None (Some mime) = Some (codes "content")
asked_scheme None None = None

-- content on the device itself
abbrev pub is_local_scheme : List ℕ → Bool
is_local_scheme scheme = is_same scheme (codes "content") || is_same scheme (codes "file")

-- if no scheme is asked for, the filter lists neither a scheme nor a type
abbrev pub takes_no_scheme : Filter → Option (List ℕ) → Bool
takes_no_scheme filter None = is_empty filter.schemes && is_empty filter.types
takes_no_scheme filter (Some scheme) = true

-- the filter takes the scheme that is asked for: it lists it, or it lists none and a type of content on the device is
-- asked for
abbrev pub takes_scheme : Filter → Option (List ℕ) → Option Mime → Bool
takes_scheme filter None mime = true
takes_scheme filter (Some scheme) mime =
    lists filter.schemes scheme || ((is_some mime && is_empty filter.schemes) && is_local_scheme scheme)

-- if a scheme is asked for and no type, the filter lists no type
abbrev pub takes_no_type : Filter → Option (List ℕ) → Option Mime → Bool
takes_no_type filter None mime = true
takes_no_type filter (Some scheme) None = is_empty filter.types
takes_no_type filter (Some scheme) (Some mime) = true

-- the filter takes the type, if there is one
abbrev pub takes_type : Filter → Option Mime → Bool
takes_type filter None = true
takes_type filter (Some mime) = passes_type filter.types mime

-- the filter takes the host of a signature that has a scheme: ports and paths aren't asked
abbrev pub takes_host : Filter → Option (List ℕ) → Option (List ℕ) → Bool
takes_host filter None host = true
takes_host filter (Some scheme) None = true
takes_host filter (Some scheme) (Some host) =
    (is_empty filter.schemes || is_empty filter.authorities)
    || list_any (λ (a : Authority). has_host (lowered a.host) (lowered host)) filter.authorities

-- the filter takes the data that is asked for
abbrev pub takes_data : Filter → Signature → Bool
takes_data filter signature =
    let scheme = asked_scheme signature.scheme signature.mime in
    (((takes_no_scheme filter scheme
    && takes_scheme filter scheme signature.mime)
    && takes_no_type filter scheme signature.mime)
    && takes_type filter signature.mime)
    && takes_host filter signature.scheme signature.host

-- the filter meets a signature
abbrev pub meets : Filter → Signature → Bool
meets filter signature =
    (lists filter.actions signature.action
    && list_all (λ category. lists filter.categories category) signature.categories)
    && takes_data filter signature

-- a component that other apps may reach has a filter that meets one of the signatures
abbrev pub shows : List Signature → Decl → Bool
shows signatures decl =
    (decl.exported && decl.enabled)
    && list_any (λ filter. list_any (λ signature. meets filter signature) signatures) decl.filters

-- the package is named by the queries, or has a component that meets them
abbrev pub is_asked_for : Queries → Package → Bool
is_asked_for queries owner = lists queries.names owner.name || list_any (shows queries.signatures) owner.decls

-- the queries of the package with that uid; they are in the order of the packages
abbrev pub queries_of : List Package → List Queries → ℕ → Option Queries
queries_of [] queries uid = None
queries_of (first ∷ others) [] uid = None
queries_of (first ∷ others) (query ∷ queries) uid = if first.uid == uid then Some query else queries_of others queries
    uid

-- the queries, if there are any, ask for the package, if there is one
abbrev pub ask_for : Option Queries → Option Package → Bool
ask_for None found = false
ask_for (Some queries) None = false
ask_for (Some queries) (Some found) = is_asked_for queries found

-- the caller sees the package of that uid
abbrev pub sees : Board → List Queries → ℕ → ℕ → Bool
sees board queries caller uid =
    ((is_privileged caller || (caller == uid))
    || holds board.grants caller (codes "android.permission.QUERY_ALL_PACKAGES"))
    || ask_for (queries_of board.packages queries caller) (package_at board.packages uid)

-- the hits of a query whose packages the caller sees
abbrev pub visible : Board → List Queries → ℕ → Kind → Intent → Bool → List Hit
visible board queries caller kind intent need_default =
    filter (λ (hit : Hit). sees board queries caller hit.uid) (query_hits board kind intent need_default)
