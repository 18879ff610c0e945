-- Kept rows: their order, and what a put does to them.
use Rattle.std.specs.Prelude.{Bool, true, ◌&&◌, List, [], ◌∷◌, IsTrue}
use Rattle.std.specs.declared.cmp.Ordering.{Ordering}
use Rattle.std.specs.declared.cmp.Ordering.TheVariants.{Less, Equal, Greater}
use Rattle.std.specs.Ordering.{nat_cmp, ordering_then, is_lt}
use Rattle.std.specs.Cmp.Lexicographic.{slice_cmp}
use Rattle.am_keeper.specs.declared.rows.PackageRow.{PackageRow}
use Rattle.am_keeper.specs.declared.rows.GrantRow.{GrantRow}
use Rattle.am_keeper.specs.declared.rows.LinkRow.{LinkRow}
use Rattle.am_keeper.specs.declared.rows.Rows.{Rows}
use Rattle.am_keeper.specs.declared.rows.Row.{Row}
use Rattle.am_keeper.specs.declared.rows.Row.TheVariants.{Package, Grant, Link}

-- packages are ordered by uid
abbrev pub by_uid : PackageRow → PackageRow → Ordering
by_uid x y = nat_cmp x.uid y.uid

-- grants are ordered by uid, then by the bytes of the permission
abbrev pub by_grant : GrantRow → GrantRow → Ordering
by_grant x y = ordering_then (nat_cmp x.uid y.uid) (slice_cmp nat_cmp x.permission y.permission)

-- links are ordered by uid, then by the bytes of the host
abbrev pub by_link : LinkRow → LinkRow → Ordering
by_link x y = ordering_then (nat_cmp x.uid y.uid) (slice_cmp nat_cmp x.host y.host)

-- an item put next to the first one of a list, by how that first one compares with it
abbrev pub beside : {X : Type 0} → Ordering → X → X → List X → List X → List X
beside Less x y ys behind = y ∷ behind
beside Equal x y ys behind = x ∷ ys
beside Greater x y ys behind = x ∷ (y ∷ ys)

-- the list with this item in the place of the one that ties with it, or else at its place in the order
abbrev pub put_in : {X : Type 0} → (X → X → Ordering) → X → List X → List X
put_in order x [] = x ∷ []
put_in order x (y ∷ ys) = beside (order y x) x y ys (put_in order x ys)

-- an item comes before the first one of a list
abbrev pub leads : {X : Type 0} → (X → X → Ordering) → X → List X → Bool
leads order x [] = true
leads order x (y ∷ ys) = is_lt (order x y)

-- each item comes before the next, and none ties with another
abbrev pub rises : {X : Type 0} → (X → X → Ordering) → List X → Bool
rises order [] = true
rises order (x ∷ xs) = leads order x xs && rises order xs

-- one package row for each uid, one grant row for each uid and permission, one link row for each uid and host, all in
-- order
pub record IsInOrder (rows : Rows) : Type 0 where
  pub packages : IsTrue (rises by_uid rows.packages)
  pub grants : IsTrue (rises by_grant rows.grants)
  pub links : IsTrue (rises by_link rows.links)

-- no rows at all
abbrev pub no_rows : Rows
no_rows = record { packages = []; grants = []; links = [] }

-- the rows with this package row in the place of the one with its uid, or added
abbrev pub with_package : Rows → PackageRow → Rows
with_package rows row = record rows { packages = put_in by_uid row rows.packages }

-- the rows with this grant row in the place of the one with its uid and permission, or added
abbrev pub with_grant : Rows → GrantRow → Rows
with_grant rows row = record rows { grants = put_in by_grant row rows.grants }

-- the rows with this link row in the place of the one with its uid and host, or added
abbrev pub with_link : Rows → LinkRow → Rows
with_link rows row = record rows { links = put_in by_link row rows.links }

-- the rows with this row put
abbrev pub with_row : Rows → Row → Rows
with_row rows (Package row) = with_package rows row
with_row rows (Grant row) = with_grant rows row
with_row rows (Link row) = with_link rows row

-- the rows with these rows put, one after the other
abbrev pub with_all : Rows → List Row → Rows
with_all rows [] = rows
with_all rows (row ∷ more) = with_all (with_row rows row) more
