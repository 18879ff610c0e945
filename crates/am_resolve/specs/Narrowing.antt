-- Narrowing as the code looks it up: a hit's component in its package, and the tests of filters that this takes.
use Rattle.std.specs.Prelude.{ℕ, ◌+◌, Bool, false, ◌&&◌, List, [], ◌∷◌, count_by, if◌then◌else◌, Option, Some, None}
use Rattle.std.specs.List.{list_any}
use Rattle.am_types.specs.declared.device.Package.{Package}
use Rattle.am_types.specs.declared.intent.Intent.{Intent}
use Rattle.am_types.specs.declared.manifest.Decl.{Decl}
use Rattle.am_types.specs.declared.resolve.Hit.{Hit}
use Rattle.am_model.specs.Boards.{package_at}
use Rattle.am_model.specs.Targets.{takes_any_host}
use Rattle.am_model.specs.Texts.{is_same}
use Rattle.am_index.specs.Groups.{in_group}

-- some component of the class has a filter that the intent passes and that lists no authority
abbrev pub is_general_in : Intent → List ℕ → List Decl → Bool
is_general_in intent class decls =
    list_any (λ (decl : Decl). is_same decl.class class && list_any (takes_any_host intent) decl.filters) decls

-- the same for a package, if there is one
abbrev pub is_general_at : Intent → List ℕ → Option Package → Bool
is_general_at intent class None = false
is_general_at intent class (Some owner) = is_general_in intent class owner.decls

-- how many filters of the components of the class belong to the intent's group
abbrev pub cost_in : Intent → List ℕ → List Decl → ℕ
cost_in intent class [] = 0
cost_in intent class (first ∷ others) =
    (if is_same first.class class then count_by (in_group intent) first.filters else 0) + cost_in intent class others

-- the same for a package, if there is one
abbrev pub cost_at : Intent → List ℕ → Option Package → ℕ
cost_at intent class None = 0
cost_at intent class (Some owner) = cost_in intent class owner.decls

-- how many for some hits
abbrev pub cost_of : List Package → Intent → List Hit → ℕ
cost_of packages intent [] = 0
cost_of packages intent (first ∷ others) =
    cost_at intent first.component.class (package_at packages first.uid) + cost_of packages intent others
