-- The one table of a store.
use Rattle.std.specs.Prelude.{ℕ, true, false, List, [], ◌∷◌, None, codes}
use Rattle.sqlite.specs.Collation.TheVariants.{Binary}
use Rattle.sqlite.specs.declared.types.Value.TheVariants.{Null}
use Rattle.sqlite.specs.Order.{Row, column}
use Rattle.sqlite.specs.Table.{Table}
use Rattle.sqlite.specs.Schema.{Schema}
use Rattle.sqlite.specs.Kind.{Kind}
use Rattle.sqlite.specs.Kind.TheVariants.{Integer, Text}
use Rattle.sqlite_schema.specs.declared.schema.Column.{Column}
use Rattle.sqlite_schema.specs.declared.schema.Index.{Index}
use Rattle.sqlite_value.specs.Keys.{plain}
use Rattle.sqlite_catalog.specs.Listing.{automatic}

-- a column of this type that is never NULL
abbrev pub column_of : List ℕ → Kind → Column
column_of name kind = record { name = name; kind = kind; is_strict = true; not_null = true; default = Null; collation = Binary }

-- the table of the kept rows, whose key is kind, uid and word
abbrev pub kept : Table
kept = record {
  name = codes "kept";
  tree = 0;
  columns = column_of (codes "kind") Integer ∷ column_of (codes "uid") Integer ∷ column_of (codes "word") Text
      ∷ column_of (codes "name") Text
      ∷ column_of (codes "access") Text ∷ column_of (codes "manifest") Text ∷ column_of (codes "truth") Integer ∷ [];
  key = None;
  primary = 1 ∷ 2 ∷ 3 ∷ [];
  uniques = (1 ∷ 2 ∷ 3 ∷ []) ∷ [];
  orders = plain ∷ [];
  checks = [];
  references = [];
  computed = [];
  stamps = record { places = []; terms = []; formats = [] };
  is_counted = false;
}

-- the index of its key
abbrev pub kept_index : Index
kept_index = automatic kept 0 (1 ∷ 2 ∷ 3 ∷ []) 1

-- the schema with only this table
abbrev pub kept_schema : Schema
kept_schema = record { tables = kept ∷ []; indexes = kept_index ∷ []; views = [] }

-- the schema of a database that has nothing yet
abbrev pub no_schema : Schema
no_schema = record { tables = []; indexes = []; views = [] }

-- the statement that puts a row, whose seven values are its parameters
abbrev pub upsert_text : List ℕ
upsert_text = codes "INSERT INTO kept (kind, uid, word, name, access, manifest, truth) VALUES (?1, ?2, ?3, ?4, ?5, ?6, ?7) ON CONFLICT (kind, uid, word) DO UPDATE SET name = excluded.name, access = excluded.access, manifest = excluded.manifest, truth = excluded.truth"

-- the seven values of a row, after its rowid
abbrev pub values_of : Row → Row
values_of r = column r 1 ∷ column r 2 ∷ column r 3 ∷ column r 4 ∷ column r 5 ∷ column r 6 ∷ column r 7 ∷ []
