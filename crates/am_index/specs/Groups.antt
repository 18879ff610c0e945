-- The filters that an intent is tested against.
use Rattle.std.specs.Prelude.{ℕ, ◌+◌, Bool, ◌||◌, List, [], ◌∷◌, count_by, Option, Some, None}
use Rattle.am_types.specs.declared.device.Package.{Package}
use Rattle.am_types.specs.declared.filter.Filter.{Filter}
use Rattle.am_types.specs.declared.intent.Intent.{Intent}
use Rattle.am_types.specs.declared.manifest.Kind.{Kind}
use Rattle.am_types.specs.declared.uri.Uri.{Uri}
use Rattle.am_types.specs.declared.uri.Mime.{Mime}
use Rattle.am_model.specs.Texts.{lists}
use Rattle.am_index.specs.Keys.{is_bare, is_typed}
use Rattle.am_index.specs.Members.{Member, members}

-- the filters that an intent without an action is tested against: without URI and type, those that list neither scheme
-- nor type; with a URI, those that list its scheme; with a type, also those that list no scheme and some type
abbrev pub in_data_group : Option Uri → Option Mime → Filter → Bool
in_data_group None None filter = is_bare filter
in_data_group (Some uri) None filter = lists filter.schemes uri.scheme
in_data_group None (Some mime) filter = is_typed filter
in_data_group (Some uri) (Some mime) filter = is_typed filter || lists filter.schemes uri.scheme

-- the filters that an intent is tested against: with an action those that list it, otherwise those that its data select
abbrev pub in_group_by : Option (List ℕ) → Option Uri → Option Mime → Filter → Bool
in_group_by (Some action) uri mime filter = lists filter.actions action
in_group_by None uri mime filter = in_data_group uri mime filter

-- the filter belongs to the intent's group
abbrev pub in_group : Intent → Filter → Bool
in_group intent filter = in_group_by intent.action intent.uri intent.mime filter

-- how many filters of some components belong to the intent's group
abbrev pub size_of : Intent → List Member → ℕ
size_of intent [] = 0
size_of intent (first ∷ others) = count_by (in_group intent) first.decl.filters + size_of intent others

-- how many filters of the enabled components of a kind belong to the intent's group
abbrev pub group_size : List Package → Kind → Intent → ℕ
group_size packages kind intent = size_of intent (members kind packages)
