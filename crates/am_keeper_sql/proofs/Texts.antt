-- What the three texts mean.
use Rattle.std.proofs.Common.{◌≡◌, ℕ, pos, negsuc, List, [], ◌∷◌, codes, Bool, false, Some, None, Ok, refl}
use Rattle.std.specs.List.{list_all}
use Rattle.sqlite.specs.declared.types.Value.TheVariants.{Null, Int}
use Rattle.sqlite.specs.Order.{Row, column}
use Rattle.sqlite.specs.Compile.{table_defined_by}
use Rattle.sqlite.specs.Command.TheVariants.{InsertOr, Select, CreateTable}
use Rattle.sqlite_schema.specs.declared.command.Conflict.TheVariants.{Abort}
use Rattle.sqlite_schema.specs.declared.command.Upsert.{Upsert}
use Rattle.sqlite.specs.Source.TheVariants.{Values}
use Rattle.sqlite.specs.Term.{Term, lit, col, op2, holds}
use Rattle.sqlite.specs.Query.{Query, inner, end}
use Rattle.sqlite.specs.Collation.TheVariants.{Binary}
use Rattle.sqlite_sql.specs.declared.ops.BinaryOp.TheVariants.{Compare}
use Rattle.sqlite_sql.specs.declared.ops.CompareOp.TheVariants.{Eq}
use Rattle.sqlite_value.specs.Keys.{ascending}
use Rattle.sqlite_catalog.specs.Change.{created}
use Rattle.sqlite_tied.specs.Compute.{everything}
use Rattle.sqlite.specs.Listing.{understood, reads_listing}
use Rattle.sqlite.proofs.Callers.{IsPlain, command_of, statement_of}
use Rattle.am_keeper_sql.specs.Table.{kept, kept_schema, no_schema, upsert_text}

-- the query of the update, which shows the old rowid and then the new row
abbrev pub update_query : Query
update_query = record {
  from = inner 0 end;
  filter = op2 (Compare Eq Binary) (col 1 0) (col 0 7) ∷ [];
  group = None;
  project = col 1 0 ∷ col 1 0 ∷ col 1 1 ∷ col 1 2 ∷ col 1 3 ∷ col 0 12 ∷ col 0 13 ∷ col 0 14 ∷ col 0 15 ∷ [];
  distinct = false;
  collations = [];
  order = [];
  limit = lit (Int (negsuc 0));
  offset = lit (Int (pos 0));
}

-- the row has the rowid that stands behind the seven parameters
abbrev pub is_met : Row → Row → Bool
is_met read r = list_all (holds (read ∷ r ∷ [])) update_query.filter

-- what becomes of such a row: its rowid and its key stay, and the other columns are those of the row that was to be put
abbrev pub updated : Row → Row → Row
updated read r = column r 0 ∷ column r 0 ∷ column r 1 ∷ column r 2 ∷ column r 3
    ∷ column read 12 ∷ column read 13 ∷ column read 14 ∷ column read 15 ∷ []

abbrev pub create_text : List ℕ
create_text = codes "CREATE TABLE kept (kind INTEGER NOT NULL, uid INTEGER NOT NULL, word TEXT NOT NULL, name TEXT NOT NULL, access TEXT NOT NULL, manifest TEXT NOT NULL, truth INTEGER NOT NULL, PRIMARY KEY (kind, uid, word)) STRICT"

abbrev pub select_text : List ℕ
select_text = codes "SELECT kind, uid, word, name, access, manifest, truth FROM kept ORDER BY kind, uid, word"

pub create_is : (command_of (understood no_schema create_text) ≡ CreateTable)
    × (statement_of create_text (understood no_schema create_text) ≡ create_text)
    × (table_defined_by create_text ≡ Ok kept)
unfolding understood everything
create_is = (refl, refl, refl)

pub schema_is : created no_schema kept ≡ kept_schema
schema_is = refl

-- the row that an upsert is given: a rowid that is chosen, and the seven parameters
abbrev pub given_terms : List Term
given_terms = lit Null ∷ col 0 0 ∷ col 0 1 ∷ col 0 2 ∷ col 0 3 ∷ col 0 4 ∷ col 0 5 ∷ col 0 6 ∷ []

abbrev pub clause : Upsert
clause = record { target = Some (1 ∷ 2 ∷ 3 ∷ []); update = Some (record { lets = []; body = update_query }) }

pub upsert_is : command_of (understood kept_schema upsert_text) ≡ InsertOr 0 Abort (Values given_terms 8) (clause ∷ [])
unfolding understood everything
upsert_is = refl

pub upsert_plain : IsPlain (understood kept_schema upsert_text)
unfolding understood everything
upsert_plain = (refl, refl)

pub create_plain : IsPlain (understood no_schema create_text)
unfolding understood everything
create_plain = (refl, refl)

pub select_plain : IsPlain (understood kept_schema select_text)
unfolding understood everything
select_plain = (refl, refl)

-- all columns in their order, ordered by the key
abbrev pub select_query : Query
select_query = record {
  from = inner 0 end;
  filter = [];
  group = None;
  project = col 1 1 ∷ col 1 2 ∷ col 1 3 ∷ col 1 4 ∷ col 1 5 ∷ col 1 6 ∷ col 1 7 ∷ [];
  distinct = false;
  collations = [];
  order = (col 1 1, ascending Binary) ∷ (col 1 2, ascending Binary) ∷ (col 1 3, ascending Binary) ∷ [];
  limit = lit (Int (negsuc 0));
  offset = lit (Int (pos 0));
}

pub select_is :
    (command_of (understood kept_schema select_text) ≡ Select (record { lets = []; body = select_query })
    (codes "kind" ∷ codes "uid" ∷ codes "word" ∷ codes "name" ∷ codes "access" ∷ codes "manifest" ∷ codes "truth" ∷ []))
    × (reads_listing kept_schema select_text ≡ false)
unfolding understood everything
select_is = (refl, refl)
