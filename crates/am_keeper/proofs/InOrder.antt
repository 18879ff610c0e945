-- Puts keep the rows in order.
use Rattle.std.proofs.Common.{List, [], ◌∷◌}
use Rattle.std.specs.Cmp.{IsTotalOrder, on_total, then_total, nat_cmp_total}
use Rattle.std.specs.Cmp.Lexicographic.{nat_list_cmp_total}
use Rattle.am_keeper.specs.declared.rows.PackageRow.{PackageRow}
use Rattle.am_keeper.specs.declared.rows.GrantRow.{GrantRow}
use Rattle.am_keeper.specs.declared.rows.LinkRow.{LinkRow}
use Rattle.am_keeper.specs.declared.rows.Rows.{Rows}
use Rattle.am_keeper.specs.declared.rows.Row.{Row}
use Rattle.am_keeper.specs.declared.rows.Row.TheVariants.{Package, Grant, Link}
use Rattle.am_keeper.specs.Rows.{by_uid, by_grant, by_link, IsInOrder, with_package, with_grant, with_link, with_row, with_all}
use Rattle.am_keeper.proofs.Puts.{rises-put_in}

pub by_uid-total : IsTotalOrder by_uid
by_uid-total = on_total (λ (row : PackageRow). row.uid) nat_cmp_total

pub by_grant-total : IsTotalOrder by_grant
by_grant-total = then_total (on_total (λ (row : GrantRow). row.uid) nat_cmp_total)
    (on_total (λ (row : GrantRow). row.permission) nat_list_cmp_total)

pub by_link-total : IsTotalOrder by_link
by_link-total = then_total (on_total (λ (row : LinkRow). row.uid) nat_cmp_total)
    (on_total (λ (row : LinkRow). row.host) nat_list_cmp_total)

pub in_order-with_package : (rows : Rows) (row : PackageRow) → IsInOrder rows → IsInOrder (with_package rows row)
in_order-with_package rows row h = record {
  packages = rises-put_in by_uid by_uid-total row rows.packages h.packages;
  grants = h.grants;
  links = h.links;
}

pub in_order-with_grant : (rows : Rows) (row : GrantRow) → IsInOrder rows → IsInOrder (with_grant rows row)
in_order-with_grant rows row h = record {
  packages = h.packages;
  grants = rises-put_in by_grant by_grant-total row
      rows.grants h.grants;
  links = h.links;
}

pub in_order-with_link : (rows : Rows) (row : LinkRow) → IsInOrder rows → IsInOrder (with_link rows row)
in_order-with_link rows row h = record {
  packages = h.packages;
  grants = h.grants;
  links = rises-put_in by_link
      by_link-total row rows.links h.links;
}

pub in_order-with_row : (rows : Rows) (row : Row) → IsInOrder rows → IsInOrder (with_row rows row)
in_order-with_row rows (Package row) h = in_order-with_package rows row h
in_order-with_row rows (Grant row) h = in_order-with_grant rows row h
in_order-with_row rows (Link row) h = in_order-with_link rows row h

pub in_order-with_all : (rows : Rows) (more : List Row) → IsInOrder rows → IsInOrder (with_all rows more)
in_order-with_all rows [] h = h
in_order-with_all rows (row ∷ more) h = in_order-with_all (with_row rows row) more (in_order-with_row rows row h)
