-- The filters that are read are within the limits.
use Rattle.std.proofs.Common.{◌≡◌, ℕ, ◌+◌, ◌*◌, ◌≤◌, ◌==◌, not, List, [], ◌∷◌, ◌++◌, length, fold, Option, Some, None, Ok, ap, subst, arith, nat_cmp}
use Rattle.std.specs.Prelude.{All, codes, filter, option_map}
use Rattle.std.specs.Cmp.Lexicographic.{slice_cmp}
use Rattle.std.proofs.lemmas.List.Elements.{All-filter}
use Rattle.std.proofs.lemmas.List.Sums.{length-filter, count_by-le-length}
use Rattle.std.proofs.Math.ListN.{length-append}
use Rattle.toml.specs.Data.{Data}
use Rattle.am_types.specs.declared.filter.Filter.{Filter}
use Rattle.am_types.specs.declared.filter.PathRule.{PathRule}
use Rattle.am_types.specs.declared.filter.PathRule.TheVariants.{Literal, Prefix, Suffix, Pattern}
use Rattle.am_model.specs.Sound.{IsSoundFilter}
use Rattle.am_filter.specs.declared.rows.Paths.{Paths}
use Rattle.am_filter.specs.declared.rows.DataRow.{DataRow}
use Rattle.am_filter.specs.declared.rows.DataRows.{DataRows}
use Rattle.am_uri.specs.declared.text.Form.TheVariants.{Filled}
use Rattle.am_manifest_filters.specs.declared.filters.Filters.{Filters}
use Rattle.am_uri.specs.Texts.{sorted_texts, with_optional}
use Rattle.am_manifest_filters.specs.Tables.{at_most, entry_table, entry_text, optional_values, texts_at}
use Rattle.am_filter.specs.Rows.{listed, no_rows, with_paths, with_row}
use Rattle.am_manifest_filters.specs.Rows.{row_entry, rows_at}
use Rattle.am_manifest_filters.specs.Filters.{filter_entry, filter_of, filters_at, has_action, priority_at, sorted_at}
use Rattle.am_uri.proofs.Order.{length_put, length_sorted}
use Rattle.am_manifest_filters.proofs.StepsRead.{steps, same, within, each_all, each_length, listed_read}

-- rows that were merged from this many
record AreMerged (rows : DataRows) (count : ℕ) : Type 0 where
  pub schemes : length rows.schemes ≤ count
  pub authorities : length rows.authorities ≤ count
  pub paths : length rows.paths ≤ 4 * count
  pub types : length rows.types ≤ count

length_listed : {X : Type 0} (o : Option X) → length (listed o) ≤ 1
length_listed None = omega arith
length_listed (Some x) = omega arith

length_optional : (texts : List (List ℕ)) (o : Option (List ℕ)) → length (with_optional texts o) ≤ length texts + 1
length_optional texts None = omega arith
length_optional texts (Some text) = length_put (slice_cmp nat_cmp) text texts

length_more : {X : Type 0} (xs : List X) (o : Option X) → length (xs ++ listed o) ≤ length xs + 1
length_more xs o = omega (arith, length-append xs (listed o), length_listed o)

length_paths : (rules : List PathRule) (paths : Paths) → length (with_paths rules paths) ≤ length rules + 4
length_paths rules paths =
    let one = rules ++ listed (option_map Literal paths.literal) in
    let two = one ++ listed (option_map Prefix paths.prefix) in
    let three = two ++ listed (option_map Suffix paths.suffix) in
    omega (
      arith,
      length_more rules (option_map Literal paths.literal),
      length_more one
          (option_map Prefix paths.prefix),
      length_more two (option_map Suffix paths.suffix),
      length_more three
          (option_map Pattern paths.pattern),
    )

merged_from : (rows : DataRows) (count : ℕ) (more : List DataRow) → AreMerged rows count
    → AreMerged (fold with_row rows more) (count + length more)
merged_from rows count [] m = record {
  schemes = omega (arith, m.schemes);
  authorities = omega (arith, m.authorities);
  paths = omega (arith, m.paths);
  types = omega (arith, m.types);
}
merged_from rows count (row ∷ more) m =
    let next : AreMerged (with_row rows row) (count + 1) = record {
      schemes = omega (arith, m.schemes, length_optional rows.schemes row.scheme);
      authorities = omega (arith, m.authorities, length_more rows.authorities row.authority);
      paths = omega (arith, m.paths, length_paths rows.paths row.paths);
      types = omega (arith, m.types, length_more rows.types row.mime);
    } in
    let all = merged_from (with_row rows row) (count + 1) more next in
    record {
      schemes = omega (arith, all.schemes);
      authorities = omega (arith, all.authorities);
      paths = omega
          (arith, all.paths);
      types = omega (arith, all.types);
    }

rows_within : (at : List ℕ) (value : Data) (rows : DataRows) → rows_at at value ≡ Ok rows → AreMerged rows 64
unfolding rows_at
rows_within at value rows h =
    let read = listed_read (row_entry at) at (codes "data") (codes "list") 64 value
    (λ values those. Ok (fold with_row no_rows those)) rows h in
    let none : AreMerged no_rows 0 = record {
      schemes = omega arith;
      authorities = omega arith;
      paths = omega arith;
      types = omega arith;
    } in
    let all = merged_from no_rows 0 read.those none in
    subst (λ (r : DataRows). AreMerged r 64) (same (fold with_row no_rows read.those) rows read.then) (record {
      schemes = omega (arith, all.schemes, read.few);
      authorities = omega (arith, all.authorities, read.few);
      paths = omega (arith, all.paths, read.few);
      types = omega (arith, all.types, read.few);
    })

texts_within : (at key : List ℕ) (value : Data) (texts : List (List ℕ)) → sorted_at at key value ≡ Ok texts
    → length texts ≤ 64
unfolding sorted_at texts_at
texts_within at key value texts h =
    let read = steps (texts_at Filled at key 64 value) _ texts h in
    let values = steps (optional_values at key value) _ read.value read.is in
    let few = steps (at_most 64 (codes "list") (length values.value)) _ read.value values.then in
    let many = within 64 (codes "list") (length values.value) few.value few.is in
    let long = each_length (entry_text Filled at key) 0 values.value read.value few.then in
    let put = length_sorted [] read.value in
    subst (λ (ts : List (List ℕ)). length ts ≤ 64) (same (sorted_texts read.value) texts read.then)
    (omega (arith, many, long, put))

filter_within : (at : List ℕ) (value : Data) (f : Filter) → filter_of at value ≡ Ok f → IsSoundFilter f
unfolding filter_of
filter_within at value f h =
    let actions = steps (sorted_at at (codes "action") value) _ f h in
    let categories = steps (sorted_at at (codes "category") value) _ f actions.then in
    let priority = steps (priority_at at value) _ f categories.then in
    let rows = steps (rows_at at value) _ f priority.then in
    let merged = rows_within at value rows.value rows.is in
    subst IsSoundFilter (same _ f rows.then) (record {
      actions = texts_within at (codes "action") value actions.value actions.is;
      categories = texts_within at (codes "category") value categories.value categories.is;
      schemes = merged.schemes;
      authorities = merged.authorities;
      paths = merged.paths;
      types = merged.types;
    })

entry_within : (at : List ℕ) (i : ℕ) (value : Data) (f : Filter) → filter_entry at i value ≡ Ok f → IsSoundFilter f
unfolding filter_entry
entry_within at i value f h =
    let inside = steps (entry_table at (codes "intent-filter") i value) _ f h in
    filter_within inside.value value f inside.then

-- filters as a component keeps them
pub record AreFewFilters (filters : List Filter) : Type 0 where
  pub few : length filters ≤ 32
  pub each : All IsSoundFilter filters

pub filters_within : (at : List ℕ) (value : Data) (filters : Filters) → filters_at at value ≡ Ok filters
    → AreFewFilters filters.kept
unfolding filters_at
filters_within at value filters h =
    let read = listed_read (filter_entry at) at (codes "intent-filter") (codes "filters") 32 value
    (λ values those. Ok (record { written = not (length values == 0); kept = filter has_action those })) filters h in
    let kept = ap (λ (fs : Filters). fs.kept) (same _ filters read.then) in
    subst AreFewFilters kept (record {
      few = omega (arith, read.few, length-filter has_action read.those, count_by-le-length has_action read.those);
      each = All-filter has_action IsSoundFilter read.those (each_all (filter_entry at) IsSoundFilter (entry_within at)
          0 read.values read.those read.is);
    })
