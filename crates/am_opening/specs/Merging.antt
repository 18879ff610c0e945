-- Rights that are merged with rows, if both are in order.
use Rattle.std.specs.Prelude.{Bool, false, ◌&&◌, List, [], ◌∷◌, ◌++◌, if◌then◌else◌}
use Rattle.am_types.specs.declared.device.Package.{Package}
use Rattle.am_keeper.specs.declared.rows.GrantRow.{GrantRow}
use Rattle.am_keeper.specs.declared.rows.LinkRow.{LinkRow}
use Rattle.am_types.specs.declared.device.RightKind.{RightKind}
use Rattle.am_types.specs.declared.device.RightKind.TheVariants.{Permission, Host}
use Rattle.am_model.specs.Boards.{is_package_uid}
use Rattle.am_model.specs.Lists.{inserted}
use Rattle.am_model.specs.Rights.{Right, before_right, is_right as is_right_of, with_right as with_right_of}
use Rattle.am_model.specs.Texts.{is_same, lowered}

-- a right comes before another one
abbrev pub is_before : Right → Right → Bool
is_before right other = before_right (λ (r : Right). r) right other

-- the other right is the same
abbrev pub is_right : Right → Right → Bool
is_right right other = is_right_of (λ (r : Right). r) right.0 right.1 other

-- the right in its place
abbrev pub place_right : Right → List Right → List Right
place_right right rights = inserted is_before right rights

-- the rights with that one held or not held
abbrev pub with_right : List Right → Right → Bool → List Right
with_right rights right held = with_right_of (λ (r : Right). r) (λ uid text. (uid, text)) rights right.0 right.1 held

-- those at the front that come before a right
abbrev pub front : Right → List Right → List Right
front right [] = []
front right (first ∷ others) = if is_before first right then first ∷ front right others else []

-- the rights without those
abbrev pub behind_front : Right → List Right → List Right
behind_front right [] = []
behind_front right (first ∷ others) = if is_before first right then behind_front right others else first ∷ others

-- the rights without the first one, if it is this right
abbrev pub unless_first : Right → List Right → List Right
unless_first right [] = []
unless_first right (first ∷ others) = if is_right right first then others else first ∷ others

-- the right, if it is held
abbrev pub if_held : Right → Bool → List Right
if_held right held = if held then right ∷ [] else []

-- the first right, if there is one, comes before this one
abbrev pub is_first_before : Right → List Right → Bool
is_first_before right [] = false
is_first_before right (first ∷ others) = is_before first right

-- the first right, if there is one, is this one
abbrev pub is_first : Right → List Right → Bool
is_first right [] = false
is_first right (first ∷ others) = is_right right first

-- rights that are done and rights that are left, after one more was held or not held
abbrev pub merge_one : Right → Bool → List Right × List Right → List Right × List Right
merge_one right held rights =
    ((rights.0 ++ front right rights.1) ++ if_held right held, unless_first right (behind_front right rights.1))

-- and if its package is there
abbrev pub merge_if : Bool → Right → Bool → List Right × List Right → List Right × List Right
merge_if live right held rights = if live then merge_one right held rights else rights

module _ {R : Type 0} (right : R → Right) (held live : R → Bool) where
  -- the rights after a row of a right, which is held or not held, if the row counts
  abbrev pub after_right : List Right → R → List Right
  after_right rights row = if live row then with_right rights (right row) (held row) else rights

-- the right that a grant row is about
abbrev pub of_grant_row : GrantRow → Right
of_grant_row row = (row.uid, row.permission)

-- the right that a link row is about
abbrev pub of_link_row : LinkRow → Right
of_link_row row = (row.uid, row.host)

-- the rows of a right count: its package is there, and a host is in lower case
abbrev pub is_live : RightKind → List Package → Right → Bool
is_live Permission packages right = is_package_uid packages right.0
is_live Host packages right = is_package_uid packages right.0 && is_same (lowered right.1) right.1
