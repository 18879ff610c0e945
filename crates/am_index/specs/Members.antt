-- The enabled components of a kind with their spots.
use Rattle.std.specs.Prelude.{ℕ, ◌+◌, Bool, not, ◌==◌, List, [], ◌∷◌, ◌++◌, filter, if◌then◌else◌}
use Rattle.am_types.specs.declared.device.Package.{Package}
use Rattle.am_types.specs.declared.manifest.Decl.{Decl}
use Rattle.am_types.specs.declared.manifest.Kind.{Kind}
use Rattle.am_model.specs.Candidates.{is_kind}
use Rattle.am_index.specs.declared.key.Key.{Key}
use Rattle.am_index.specs.declared.key.Spot.{Spot}
use Rattle.am_index.specs.Keys.{is_under}

-- a component with its package, its position among all components there, and its place among those of its kind
pub record Member : Type 0 where
  pub owner : Package
  pub position : ℕ
  pub place : ℕ
  pub decl : Decl

-- the enabled components of a kind among those from this position and place on
abbrev pub members_from : Kind → Package → ℕ → ℕ → List Decl → List Member
members_from kind owner position place [] = []
members_from kind owner position place (first ∷ others) =
    if is_kind kind first.kind
    then (if first.enabled
    then record { owner = owner; position = position; place = place; decl = first }
    ∷ members_from kind owner (position + 1) (place + 1) others
    else members_from kind owner (position + 1) (place + 1) others)
    else members_from kind owner (position + 1) place others

-- the enabled components of a kind in the order of the packages, then by place
abbrev pub members : Kind → List Package → List Member
members kind [] = []
members kind (first ∷ others) = members_from kind first 0 0 first.decls ++ members kind others

-- the spot of a component
abbrev pub spot_of : Member → Spot
spot_of m = record { uid = m.owner.uid; position = m.position; place = m.place }

-- the spots of those components that pass a test
abbrev pub spots_where : (Member → Bool) → List Member → List Spot
spots_where test [] = []
spots_where test (first ∷ others) = if test first then spot_of first
    ∷ spots_where test others else spots_where test others

-- the spots of the components of a package that are listed under a key
abbrev pub spots_of_package : Key → Package → List Spot
spots_of_package key owner =
    spots_where (λ m. is_under key m.owner m.decl) (members_from key.kind owner 0 0 owner.decls)

-- the spots of the components that are listed under a key
abbrev pub spots_under : Key → List Package → List Spot
spots_under key packages = spots_where (λ m. is_under key m.owner m.decl) (members key.kind packages)

-- the spots outside the package of a uid
abbrev pub spots_without : List Spot → ℕ → List Spot
spots_without spots uid = filter (λ (s : Spot). not (s.uid == uid)) spots
