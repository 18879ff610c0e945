-- Plain filters and components.
use Rattle.std.specs.Prelude.{ℕ, ℤ, true, List, [], ◌∷◌, None}
use Rattle.am_types.specs.declared.filter.Filter.{Filter}
use Rattle.am_types.specs.declared.manifest.Decl.{Decl}
use Rattle.am_types.specs.declared.manifest.Kind.{Kind}
use Rattle.am_types.specs.declared.manifest.Mode.TheVariants.{Standard}

-- a filter of one action, with categories and a priority
abbrev pub filter_for : List ℕ → List (List ℕ) → ℤ → Filter
filter_for action categories priority = record {
  actions = action ∷ [];
  categories = categories;
  schemes = [];
  authorities = [];
  paths = [];
  types = [];
  priority = priority;
}

-- an exported component without a permission
abbrev pub open_decl : Kind → List ℕ → List Filter → Decl
open_decl kind class filters = record {
  kind = kind;
  class = class;
  exported = true;
  enabled = true;
  permission = None;
  mode = Standard;
  affinity = [];
  filters = filters;
}
