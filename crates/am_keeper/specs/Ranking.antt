-- The orders of kept rows, which are total.
use Rattle.std.specs.declared.cmp.Ordering.{Ordering}
use Rattle.std.specs.Cmp.{IsTotalOrder, on_total, then_total, nat_cmp_total}
use Rattle.std.specs.Cmp.Lexicographic.{nat_list_cmp_total}
use Rattle.am_keeper.specs.declared.rows.PackageRow.{PackageRow}
use Rattle.am_keeper.specs.declared.rows.GrantRow.{GrantRow}
use Rattle.am_keeper.specs.declared.rows.LinkRow.{LinkRow}
use Rattle.am_keeper.specs.Rows.{by_uid, by_grant, by_link}

-- an order in which any two items have a place
pub record Ranking (X : Type 0) : Type 0 where
  pub order : X → X → Ordering
  pub total : IsTotalOrder order

abbrev pub packages : Ranking PackageRow
packages = record { order = by_uid; total = on_total (λ row. row.uid) nat_cmp_total }

abbrev pub grants : Ranking GrantRow
grants = record {
  order = by_grant;
  total = then_total (on_total (λ row. row.uid) nat_cmp_total) (on_total (λ row. row.permission) nat_list_cmp_total);
}

abbrev pub links : Ranking LinkRow
links = record {
  order = by_link;
  total = then_total (on_total (λ row. row.uid) nat_cmp_total) (on_total (λ row. row.host) nat_list_cmp_total);
}
