-- Examples of groups: how many filters an intent is tested against at most, what it asks for, and what is listed.
use Rattle.std.specs.Prelude.{◌≡◌, ℕ, pos, false, codes, List, [], ◌∷◌, Option, None, Some, refl}
use Rattle.am_types.specs.declared.device.Package.{Package}
use Rattle.am_types.specs.declared.filter.Filter.{Filter}
use Rattle.am_types.specs.declared.intent.Intent.{Intent}
use Rattle.am_types.specs.declared.manifest.Kind.TheVariants.{Activity, Service}
use Rattle.am_types.specs.declared.manifest.Decl.{Decl}
use Rattle.am_types.specs.declared.uri.Mime.{Mime}
use Rattle.am_types.specs.declared.uri.Uri.{Uri}
use Rattle.am_types.specs.declared.uri.UriParts.{UriParts}
use Rattle.am_types.specs.Intents.{no_intent}
use Rattle.am_model.specs.Plain.{filter_for, open_decl}
use Rattle.am_index.specs.declared.key.Group.TheVariants.{Action, Scheme, Typed, Main}
use Rattle.am_index.specs.Groups.{group_size}
use Rattle.am_index.specs.Keys.{groups_of_filter}
use Rattle.am_index.specs.Lookups.{groups_for}

-- the intent of an action
abbrev asking : List ℕ → Intent
asking action = record no_intent { action = Some action }

-- a URI by its text, its scheme and its host, which are the same by both rules
abbrev uri_at : List ℕ → List ℕ → Option (List ℕ) → Uri
uri_at text scheme host =
    let parts : UriParts = record { host = host; port = None; path = codes "/" } in
    record { text = text; scheme = scheme; profile = parts; phone = parts }

-- a type by its two parts
abbrev mime_at : List ℕ → List ℕ → Mime
mime_at main sub = record { main = main; sub = sub }

-- a package that isn't stopped
abbrev package_with : ℕ → List ℕ → List Decl → Package
package_with uid name decls = record { uid = uid; name = name; key = codes "k"; stopped = false; decls = decls }

-- a filter of an action with schemes and types
abbrev lists : List ℕ → List (List ℕ) → List Mime → Filter
lists action schemes types = record (filter_for action [] (pos 0)) { schemes = schemes; types = types }

-- a picture
abbrev picture : Mime
picture = mime_at (codes "image") (codes "png")

-- a page
abbrev page : Uri
page = uri_at (codes "http://h") (codes "http") (Some (codes "h"))

-- an activity with one filter
abbrev activity : List ℕ → Filter → Decl
activity class filter = open_decl Activity class (filter ∷ [])

-- five activities
abbrev device : List Package
device = package_with 10000 (codes "com.one")
    (activity (codes "F1") (lists (codes "x.A") [] [])
    ∷ activity (codes "F2") (lists (codes "x.A") (codes "http" ∷ []) [])
    ∷ activity (codes "F3") (lists (codes "x.A") [] (picture ∷ []))
    ∷ activity (codes "F4") (lists (codes "x.A") (codes "http" ∷ []) (picture ∷ []))
    ∷ activity (codes "F5") (lists (codes "x.B") [] [])
    ∷ []) ∷ []

-- four list the action
pub by_action : group_size device Activity (asking (codes "x.A")) ≡ 4
by_action = refl

-- two list neither scheme nor type
pub without_data : group_size device Activity no_intent ≡ 2
without_data = refl

-- two list the scheme
pub by_scheme : group_size device Activity (record no_intent { uri = Some page }) ≡ 2
by_scheme = refl

-- one lists a type and no scheme
pub by_type : group_size device Activity (record no_intent { mime = Some picture }) ≡ 1
by_type = refl

-- three list the scheme, or a type and no scheme
pub by_both : group_size device Activity (record no_intent { uri = Some page; mime = Some picture }) ≡ 3
by_both = refl

-- none is a service's
pub of_another_kind : group_size device Service (asking (codes "x.A")) ≡ 0
of_another_kind = refl

-- an intent with a type asks for those that list its main part, and for those that list the one that stands for every
-- other
pub asked_by_type : groups_for None None None (Some picture) ≡ Main (codes "image") ∷ Main (codes "*") ∷ []
asked_by_type = refl

-- with the type that stands for every other for all types
pub asked_by_any_type : groups_for None None None (Some (mime_at (codes "*") (codes "*"))) ≡ Typed ∷ []
asked_by_any_type = refl

-- with a URI for its scheme besides
pub asked_by_both : groups_for None None (Some page) (Some picture) ≡ Scheme (codes "http") ∷ Main (codes "image")
    ∷ Main (codes "*") ∷ []
asked_by_both = refl

-- a filter without schemes is listed for the main parts of its types
pub listed_by_types : groups_of_filter (lists (codes "x.A") [] (picture ∷ mime_at (codes "text") (codes "plain") ∷ []))
    ≡ Action (codes "x.A") ∷ Typed ∷ Main (codes "image") ∷ Main (codes "text") ∷ []
listed_by_types = refl

-- one with a scheme by no type
pub listed_by_scheme : groups_of_filter (lists (codes "x.A") (codes "http" ∷ []) (picture ∷ [])) ≡ Action (codes "x.A")
    ∷ Scheme (codes "http") ∷ []
listed_by_scheme = refl
