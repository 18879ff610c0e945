-- The data rows of a filter, merged.
use Rattle.std.specs.Prelude.{ℕ, ℤ, List, [], ◌∷◌, ◌++◌, Option, Some, None, option_map}
use Rattle.am_types.specs.declared.filter.Filter.{Filter}
use Rattle.am_types.specs.declared.filter.PathRule.{PathRule}
use Rattle.am_types.specs.declared.filter.PathRule.TheVariants.{Literal, Prefix, Suffix, Pattern}
use Rattle.am_filter.specs.declared.rows.Merging.{Merging}
use Rattle.am_filter.specs.declared.rows.Paths.{Paths}
use Rattle.am_filter.specs.declared.rows.DataRow.{DataRow}
use Rattle.am_filter.specs.declared.rows.DataRows.{DataRows}
use Rattle.am_uri.specs.Texts.{with_optional}

-- an option as a list
abbrev pub listed : {X : Type 0} → Option X → List X
listed None = []
listed (Some x) = x ∷ []

-- the rules, followed by those of one more row
abbrev pub with_paths : List PathRule → Paths → List PathRule
with_paths rules paths =
    (((rules ++ listed (option_map Literal paths.literal)) ++ listed (option_map Prefix paths.prefix))
    ++ listed (option_map Suffix paths.suffix)) ++ listed (option_map Pattern paths.pattern)

-- one more row: schemes are sorted, each once, and everything else is in the order read
abbrev pub with_row : DataRows → DataRow → DataRows
with_row rows row =
    record {
      schemes = with_optional rows.schemes row.scheme;
      authorities = rows.authorities
          ++ listed row.authority;
      paths = with_paths rows.paths row.paths;
      types = rows.types ++ listed row.mime;
    }

-- no rows
abbrev pub no_rows : DataRows
no_rows = record { schemes = []; authorities = []; paths = []; types = [] }

-- a filter of these actions, categories and rows
abbrev pub filter_with : List (List ℕ) → List (List ℕ) → DataRows → ℤ → Filter
filter_with actions categories rows priority = record {
  actions = actions;
  categories = categories;
  schemes = rows.schemes;
  authorities = rows.authorities;
  paths = rows.paths;
  types = rows.types;
  priority = priority;
}

-- rows that are being merged, as the rows that they represent
abbrev pub merged : Merging → DataRows
merged rows = record {
  schemes = rows.schemes.keys;
  authorities = rows.authorities.items;
  paths = rows.paths.items;
  types = rows.types.items;
}
