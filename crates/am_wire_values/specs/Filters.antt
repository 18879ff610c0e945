-- The value of a filter: one row of data for each scheme, authority, path and type.
use Rattle.std.specs.Prelude.{ℕ, List, ◌++◌, map, codes, option_map}
use Rattle.serde_json.specs.Data.{Data, string, object, no_members, member, put}
use Rattle.am_types.specs.declared.filter.Authority.{Authority}
use Rattle.am_types.specs.declared.filter.Filter.{Filter}
use Rattle.am_types.specs.declared.filter.PathRule.{PathRule}
use Rattle.am_types.specs.declared.filter.PathRule.TheVariants.{Literal, Prefix, Suffix, Pattern}
use Rattle.am_types.specs.declared.uri.Mime.{Mime}
use Rattle.am_wire_values.specs.Fields.{put_given, natural, some_whole, some_listed, texts_data, some_texts}
use Rattle.am_wire_values.specs.Intents.{mime_data}

-- a row with one key
abbrev pub row_of : List ℕ → Data → Data
row_of key value = object (member key value no_members)

-- the row of a scheme
abbrev pub scheme_row : List ℕ → Data
scheme_row scheme = row_of (codes "scheme") (string scheme)

-- the row of an authority
abbrev pub authority_row : Authority → Data
authority_row authority =
    object (put_given (codes "port") (option_map natural authority.port)
    (put (codes "host") (string authority.host) no_members))

-- the row of a path rule
abbrev pub path_row : PathRule → Data
path_row (Literal path) = row_of (codes "path") (string path)
path_row (Prefix start) = row_of (codes "pathPrefix") (string start)
path_row (Suffix end) = row_of (codes "pathSuffix") (string end)
path_row (Pattern glob) = row_of (codes "pathPattern") (string glob)

-- the row of a type
abbrev pub type_row : Mime → Data
type_row mime = row_of (codes "mimeType") (mime_data mime)

-- all rows
unfoldable pub rows_of : Filter → List Data
rows_of filter =
    ((map scheme_row filter.schemes ++ map authority_row filter.authorities) ++ map path_row filter.paths)
    ++ map type_row filter.types

-- the value of a filter
unfoldable pub filter_data : Filter → Data
filter_data filter =
    object (put_given (codes "priority") (some_whole filter.priority)
    (put_given (codes "data") (some_listed (rows_of filter))
    (put_given (codes "categories") (some_texts filter.categories)
    (put (codes "actions") (texts_data filter.actions) no_members))))
