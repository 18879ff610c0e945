-- The keys that components are listed under: a kind, one package or all, and what they are or what their filters list.
use Rattle.std.specs.Prelude.{ℕ, Bool, true, not, ◌&&◌, List, [], ◌∷◌, ◌++◌, map, Option, Some, None, if◌then◌else◌}
use Rattle.std.specs.List.{list_any}
use Rattle.am_types.specs.declared.device.Package.{Package}
use Rattle.am_types.specs.declared.filter.Filter.{Filter}
use Rattle.am_types.specs.declared.manifest.Decl.{Decl}
use Rattle.am_types.specs.declared.uri.Mime.{Mime}
use Rattle.am_model.specs.Texts.{is_same, lists}
use Rattle.am_model.specs.Filters.{is_empty}
use Rattle.am_index.specs.declared.key.Group.{Group}
use Rattle.am_index.specs.declared.key.Group.TheVariants.{Class, Action, Scheme, Bare, Typed, Main}
use Rattle.am_index.specs.declared.key.Key.{Key}
use Rattle.am_index.specs.contracts.key.GroupPartialEq.TheImpl as groups
use Rattle.am_index.specs.contracts.key.KeyPartialEq.TheImpl as keys

-- two groups are the same: of one kind, with the same text if it has one
abbrev pub same_group : Group → Group → Bool
same_group = groups.ghosts.eq

-- two keys are the same: of the same kind, package and group
abbrev pub same_key : Key → Key → Bool
same_key = keys.ghosts.eq

-- the key is for this package or for all
abbrev pub is_for : Option (List ℕ) → List ℕ → Bool
is_for None name = true
is_for (Some asked) name = is_same asked name

-- a filter lists neither scheme nor type
abbrev pub is_bare : Filter → Bool
is_bare filter = is_empty filter.schemes && is_empty filter.types

-- a filter lists no scheme and some type
abbrev pub is_typed : Filter → Bool
is_typed filter = is_empty filter.schemes && not (is_empty filter.types)

-- some listed type has this main part
abbrev pub lists_main : List Mime → List ℕ → Bool
lists_main types main = list_any (λ (t : Mime). is_same t.main main) types

-- a filter lists no scheme and some type with this main part
abbrev pub has_main : List ℕ → Filter → Bool
has_main main filter = is_empty filter.schemes && lists_main filter.types main

-- a component is of this class, or has a filter that lists such a thing
abbrev pub is_in : Group → Decl → Bool
is_in (Class class) decl = is_same class decl.class
is_in (Action action) decl = list_any (λ (f : Filter). lists f.actions action) decl.filters
is_in (Scheme scheme) decl = list_any (λ (f : Filter). lists f.schemes scheme) decl.filters
is_in Bare decl = list_any is_bare decl.filters
is_in Typed decl = list_any is_typed decl.filters
is_in (Main main) decl = list_any (has_main main) decl.filters

-- a component is listed under the key
abbrev pub is_under : Key → Package → Decl → Bool
is_under key owner decl = is_for key.owner owner.name && is_in key.group decl

-- the groups under which a type of a filter without schemes lists its component
abbrev pub type_group : Mime → Group
type_group mime = Main mime.main

-- the groups under which the types of a filter without schemes list its component, repeats included
abbrev pub groups_of_types : List Mime → List Group
groups_of_types [] = Bare ∷ []
groups_of_types (first ∷ others) = Typed ∷ map type_group (first ∷ others)

-- the groups under which the data of a filter list its component, apart from the schemes
abbrev pub data_groups : Filter → List Group
data_groups filter = if is_empty filter.schemes then groups_of_types filter.types else []

-- the groups under which a filter lists its component
abbrev pub groups_of_filter : Filter → List Group
groups_of_filter filter = (map Action filter.actions ++ map Scheme filter.schemes) ++ data_groups filter

-- the groups under which the filters list their component
abbrev pub groups_of_filters : List Filter → List Group
groups_of_filters [] = []
groups_of_filters (first ∷ others) = groups_of_filter first ++ groups_of_filters others

-- the groups under which a component is listed, repeats included
abbrev pub groups_of : Decl → List Group
groups_of decl = Class decl.class ∷ groups_of_filters decl.filters
