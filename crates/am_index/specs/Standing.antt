-- Which packages an index represents.
use Rattle.std.specs.Prelude.{◌≡◌, ◌≤◌, List, [], ◌∷◌, ◌++◌, length, All}
use Rattle.std.specs.List.Sorted.{IsStrictlyIncreasing}
use Rattle.am_types.specs.declared.device.Package.{Package}
use Rattle.am_model.specs.Sound.{AreSoundPackages, uids_of}
use Rattle.am_index.specs.declared.key.Key.{Key}
use Rattle.am_index.specs.declared.index.FilterIndex.{FilterIndex}
use Rattle.am_index.specs.Lists.{spots_at}
use Rattle.am_index.specs.Members.{spots_under}

-- the packages are in the order of their uids, and none has more than 256 components
pub record CanBeListed (packages : List Package) : Type 0 where
  pub rising : IsStrictlyIncreasing (uids_of packages)
  pub few : All (λ (p : Package). length p.decls ≤ 256) packages

-- the packages of a sound device can be listed
pub sound_can_be_listed : (packages : List Package) → AreSoundPackages packages → CanBeListed packages
sound_can_be_listed packages sound = record { rising = sound.rising; few = λ k d h. (sound.each k d h).few }

-- the packages are in the order of their uids, and under each key the index lists, in their order, exactly those of
-- their enabled components that the key asks for
pub record StandsFor (index : FilterIndex) (packages : List Package) : Type 0 where
  pub rising : IsStrictlyIncreasing (uids_of packages)
  pub lists : (key : Key) → spots_at index.lists key ≡ spots_under key packages

-- under each key both indexes list the same
abbrev pub ListsTheSame : FilterIndex → FilterIndex → Type 0
ListsTheSame index other = (key : Key) → spots_at other.lists key ≡ spots_at index.lists key

-- some packages that the index represents can be listed with this one after them
abbrev pub CanTake : FilterIndex → Package → Type 0
CanTake index added =
    (packages : List Package) × (StandsFor index packages × CanBeListed (packages ++ added ∷ []))
