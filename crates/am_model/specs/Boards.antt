-- What is installed on a device and what was given to it: packages, grants, links and registered receivers.
use Rattle.std.specs.Prelude.{ℕ, Bool, not, ◌&&◌, ◌==◌, codes, List, [], ◌∷◌, map, filter, if◌then◌else◌, Option, Some, None}
use Rattle.std.specs.List.{list_any}
use Rattle.am_types.specs.declared.device.Device.{Device}
use Rattle.am_types.specs.declared.device.Package.{Package}
use Rattle.am_types.specs.declared.device.Grant.{Grant}
use Rattle.am_types.specs.declared.device.Link.{Link}
use Rattle.am_types.specs.declared.device.Rules.{Rules}
use Rattle.am_types.specs.declared.resolve.Registration.{Registration}
use Rattle.am_model.specs.Rights.{grant_of, link_of, of_grant, of_link, with_right}
use Rattle.am_model.specs.Texts.{is_same}

-- packages in the order of their uids, grants by uid and permission, links by uid and host, registered receivers
-- by number; the device's browser and its lists of protected and exempt actions; and by whose rules it answers
pub record Board : Type 0 where
  pub rules : Rules
  pub packages : List Package
  pub grants : List Grant
  pub links : List Link
  pub registered : List Registration
  pub browser : Option (List ℕ)
  pub protected : List (List ℕ)
  pub exempt : List (List ℕ)

-- the board of a device on which nothing happened yet
abbrev pub board_of : Device → Board
board_of device = record {
  rules = device.rules;
  packages = device.packages;
  grants = device.grants;
  links = device.links;
  registered = [];
  browser = device.browser;
  protected = device.protected;
  exempt = device.exempt;
}

-- the package with that name, if there is one
abbrev pub package_named : List Package → List ℕ → Option Package
package_named [] name = None
package_named (first ∷ others) name = if is_same first.name name then Some first else package_named others name

-- the uid of the package of that name, if there is one
abbrev pub uid_named : List Package → List ℕ → Option ℕ
uid_named [] name = None
uid_named (first ∷ others) name = if is_same first.name name then Some first.uid else uid_named others name

-- the uid of the caller of that name, if there is one; `android` is the system's
abbrev pub caller_of : List Package → List ℕ → Option ℕ
caller_of packages name = if is_same name (codes "android") then Some 1000 else uid_named packages name

-- the package with that uid, if there is one
abbrev pub package_at : List Package → ℕ → Option Package
package_at [] uid = None
package_at (first ∷ others) uid = if first.uid == uid then Some first else package_at others uid

-- a package has the uid
abbrev pub is_package_uid : List Package → ℕ → Bool
is_package_uid packages uid = list_any (λ (p : Package). p.uid == uid) packages

-- the packages, the one with that uid stopped or not stopped
abbrev pub with_stopped : List Package → ℕ → Bool → List Package
with_stopped packages uid stopped =
    map (λ (p : Package). if p.uid == uid then record p { stopped = stopped } else p) packages

-- the packages without the one of that uid
abbrev pub without_package : List Package → ℕ → List Package
without_package packages uid = filter (λ (p : Package). not (p.uid == uid)) packages

-- the grant is of that uid and permission
abbrev pub is_grant : ℕ → List ℕ → Grant → Bool
is_grant uid permission grant = (grant.uid == uid) && is_same grant.permission permission

-- the uid was granted the permission
abbrev pub is_granted : List Grant → ℕ → List ℕ → Bool
is_granted grants uid permission = list_any (is_grant uid permission) grants

-- the grants with that one held or not held
abbrev pub with_grant : List Grant → ℕ → List ℕ → Bool → List Grant
with_grant grants uid permission held = with_right of_grant grant_of grants uid permission held

-- the link is of that uid and host
abbrev pub is_link : ℕ → List ℕ → Link → Bool
is_link uid host link = (link.uid == uid) && is_same link.host host

-- the uid is approved for the host
abbrev pub is_linked : List Link → ℕ → List ℕ → Bool
is_linked links uid host = list_any (is_link uid host) links

-- the links with that one approved or not
abbrev pub with_link : List Link → ℕ → List ℕ → Bool → List Link
with_link links uid host approved = with_right of_link link_of links uid host approved

-- what is left of the grants without those of a uid
abbrev pub grants_without : List Grant → ℕ → List Grant
grants_without grants uid = filter (λ (grant : Grant). not (grant.uid == uid)) grants

-- what is left of the links without those of a uid
abbrev pub links_without : List Link → ℕ → List Link
links_without links uid = filter (λ (link : Link). not (link.uid == uid)) links

-- what is left of the registered receivers without those of a uid
abbrev pub registered_without : List Registration → ℕ → List Registration
registered_without registered uid = filter (λ (r : Registration). not (r.uid == uid)) registered
