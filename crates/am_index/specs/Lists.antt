-- The lists of an index.
use Rattle.std.specs.Prelude.{◌≡◌, ℕ, Bool, ◌&&◌, List, [], ◌∷◌, ◌++◌, Option, Some, None, Vec, if◌then◌else◌}
use Rattle.std.specs.HashMap.{HashMap, get}
use Rattle.std.specs.List.{list_any}
use Rattle.std.specs.declared.alloc.Global.{Global}
use Rattle.am_types.specs.declared.manifest.Kind.{Kind}
use Rattle.am_model.specs.Candidates.{is_kind}
use Rattle.am_index.specs.declared.key.Group.{Group}
use Rattle.am_index.specs.declared.key.Key.{Key}
use Rattle.am_index.specs.declared.key.Spot.{Spot}
use Rattle.am_index.specs.Keys.{same_key, same_group, is_for}
use Rattle.am_index.specs.Members.{spots_without}

-- the spots of a list, if there is one
abbrev pub spots_in : Option (Vec Spot Global) → List Spot
spots_in None = []
spots_in (Some spots) = spots.items

-- the spots listed under a key
abbrev pub spots_at : {S : Type 0} → HashMap Key (Vec Spot Global) S → Key → List Spot
spots_at lists key = spots_in (get same_key lists key)

-- the spots, followed by this one if it belongs there
abbrev pub noted : Bool → Spot → List Spot → List Spot
noted belongs spot spots = spots ++ (if belongs then spot ∷ [] else [])

-- a key is for one of some groups of a component of this kind and package
abbrev pub asks_for : Kind → List ℕ → List Group → Key → Bool
asks_for kind owner groups key =
    is_kind key.kind kind && (is_for key.owner owner && list_any (same_group key.group) groups)

-- what other packages have in the lists stays
abbrev pub KeepsOthers : {S : Type 0} → ℕ → HashMap Key (Vec Spot Global) S → HashMap Key (Vec Spot Global) S → Type 0
KeepsOthers uid old new = (key : Key) → spots_without (spots_at new key) uid ≡ spots_without (spots_at old key) uid
