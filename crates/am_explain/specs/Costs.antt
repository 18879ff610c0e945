-- How many filters have to be tested.
use Rattle.std.specs.Prelude.{ℕ, ◌+◌, List, [], ◌∷◌, length, if◌then◌else◌}
use Rattle.am_types.specs.declared.manifest.Kind.{Kind}
use Rattle.am_types.specs.declared.manifest.Decl.{Decl}
use Rattle.am_types.specs.declared.device.Package.{Package}
use Rattle.am_model.specs.Candidates.{is_kind}

-- the filters of those components that are of the kind
abbrev pub filters_from : Kind → List Decl → ℕ
filters_from kind [] = 0
filters_from kind (first ∷ others) =
    (if is_kind kind first.kind then length first.filters else 0) + filters_from kind others

-- the filters of the components of a kind
abbrev pub filters_in : Kind → List Package → ℕ
filters_in kind [] = 0
filters_in kind (first ∷ others) = filters_from kind first.decls + filters_in kind others
