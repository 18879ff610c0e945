-- What always holds of the installed things.
use Rattle.std.specs.Prelude.{◌≤◌, List, length, All}
use Rattle.std.specs.List.{IsDistinct}
use Rattle.std.specs.List.Sorted.{IsStrictlyIncreasing, IsStrictlySortedBy}
use Rattle.am_types.specs.declared.device.Device.{Device}
use Rattle.am_types.specs.declared.device.Grant.{Grant}
use Rattle.am_types.specs.declared.device.Link.{Link}
use Rattle.am_types.specs.declared.device.Package.{Package}
use Rattle.am_model.specs.Boards.{Board, board_of}
use Rattle.am_model.specs.Sound.{AreDistinct, IsSound, classes_of, names_of, right_cmp, rights_approved, rights_granted, uids_of}
use Rattle.am_installed.specs.Places.{AreByNumber}

-- a package has at most 256 components, of distinct classes
pub record IsInstalled (p : Package) : Type 0 where
  pub few : length p.decls ≤ 256
  pub classes : AreDistinct (classes_of p.decls)

-- packages of distinct names, with rising uids
pub record AreInstalled (packages : List Package) : Type 0 where
  pub rising : IsStrictlyIncreasing (uids_of packages)
  pub names : AreDistinct (names_of packages)
  pub each : All IsInstalled packages

-- grants by uid, then by the bytes of the permission, each once
abbrev pub AreGrantsInOrder : List Grant → Type 0
AreGrantsInOrder grants = IsStrictlySortedBy right_cmp (rights_granted grants)

-- links by uid, then by the bytes of the host, each once
abbrev pub AreLinksInOrder : List Link → Type 0
AreLinksInOrder links = IsStrictlySortedBy right_cmp (rights_approved links)

-- packages, grants, links and registered receivers are in their orders
pub record IsInOrder (board : Board) : Type 0 where
  pub packages : AreInstalled board.packages
  pub grants : AreGrantsInOrder board.grants
  pub links : AreLinksInOrder board.links
  pub registered : AreByNumber board.registered

-- the packages of a sound device are installed
pub sound_are_installed : (device : Device) → IsSound device → AreInstalled device.packages
unfolding IsDistinct
sound_are_installed device sound = record {
  rising = sound.packages.rising;
  names = sound.names.1;
  each = λ k d h. record { few = (sound.packages.each k d h).few; classes = (sound.packages.each k d h).classes };
}

-- what a sound device has is in order
pub sound_in_order : (device : Device) → IsSound device → IsInOrder (board_of device)
sound_in_order device sound = record {
  packages = sound_are_installed device sound;
  grants = sound.grants.order;
  links = sound.links.order;
  registered = tt;
}
