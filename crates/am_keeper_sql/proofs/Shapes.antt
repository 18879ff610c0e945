-- The index of the table, from its parts.
use Rattle.std.proofs.Common.{◌≡◌, true, codes, refl}
use Rattle.std.specs.Fmt.{digits}
use Rattle.sqlite_schema.specs.declared.schema.Index.{Index}
use Rattle.am_keeper_sql.specs.Table.{kept_index}

pub index_is : (i : Index) → i.name ≡ kept_index.name → i.tree ≡ 1 → i.table ≡ 0 → i.columns ≡ kept_index.columns
    → i.order ≡ kept_index.order → i.is_unique ≡ true → i ≡ kept_index
index_is i a b c d e f = λ at. record {
  name = a at;
  tree = b at;
  table = c at;
  columns = d at;
  order = e at;
  is_unique
      = f at;
}

pub index_name : codes "sqlite_autoindex_kept_1" ≡ kept_index.name
unfolding digits
index_name = refl
