-- Rights: each has a uid and a text, however it is kept.
use Rattle.std.specs.Prelude.{ℕ, Bool, true, false, not, ◌&&◌, ◌||◌, ◌==◌, nat_lt, List, filter, if◌then◌else◌}
use Rattle.std.specs.List.{list_any}
use Rattle.am_types.specs.declared.device.Grant.{Grant}
use Rattle.am_types.specs.declared.device.Link.{Link}
use Rattle.am_model.specs.Lists.{inserted}
use Rattle.am_model.specs.Texts.{is_same, is_before}

-- a uid, and a permission or a host
abbrev pub Right : Type 0
Right = ℕ × List ℕ

-- one uid and text come before another: by uid, then by bytes
abbrev pub stands_before : ℕ → List ℕ → ℕ → List ℕ → Bool
stands_before uid text other_uid other = nat_lt uid other_uid || ((uid == other_uid) && is_before text other)

-- what a grant is a right to, and a link
abbrev pub of_grant : Grant → Right
of_grant grant = (grant.uid, grant.permission)

abbrev pub of_link : Link → Right
of_link link = (link.uid, link.host)

-- the grant of a right, and the link
abbrev pub grant_of : ℕ → List ℕ → Grant
grant_of uid permission = record { uid = uid; permission = permission }

abbrev pub link_of : ℕ → List ℕ → Link
link_of uid host = record { uid = uid; host = host }

module _ {R : Type 0} (right_of : R → Right) where
  -- the right is of that uid and text
  abbrev pub is_right : ℕ → List ℕ → R → Bool
  is_right uid text right = ((right_of right).0 == uid) && is_same (right_of right).1 text

  -- one of the rights is
  abbrev pub has_right : List R → ℕ → List ℕ → Bool
  has_right rights uid text = list_any (is_right uid text) rights

  -- a right comes before another
  abbrev pub before_right : R → R → Bool
  before_right right other = stands_before (right_of right).0 (right_of right).1 (right_of other).0 (right_of other).1

  -- the rights with that one, given by its uid and its text, held or not held
  abbrev pub with_right : (ℕ → List ℕ → R) → List R → ℕ → List ℕ → Bool → List R
  with_right made rights uid text true = if has_right rights uid text then rights else inserted before_right
      (made uid text) rights
  with_right made rights uid text false = filter (λ (right : R). not (is_right uid text right)) rights

  -- what is left of the rights without those of a uid
  abbrev pub rights_without : List R → ℕ → List R
  rights_without rights uid = filter (λ (right : R). not ((right_of right).0 == uid)) rights
