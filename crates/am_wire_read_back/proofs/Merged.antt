-- The rows that are written for a filter, merged, are what the filter lists.
use Rattle.std.proofs.Common.{◌≡◌, ℕ, List, [], ◌∷◌, ◌++◌, map, fold, Result, Ok, refl, sym, ap, ◌∙◌, subst, append_assoc}
use Rattle.std.specs.List.{AllByRecursion}
use Rattle.std.proofs.lemmas.List.{append-nil}
use Rattle.serde_json.specs.Data.{Data}
use Rattle.am_types.specs.declared.filter.Authority.{Authority}
use Rattle.am_types.specs.declared.filter.Filter.{Filter}
use Rattle.am_types.specs.declared.filter.PathRule.{PathRule}
use Rattle.am_types.specs.declared.filter.PathRule.TheVariants.{Literal, Prefix, Suffix, Pattern}
use Rattle.am_types.specs.declared.uri.Mime.{Mime}
use Rattle.am_filter.specs.declared.rows.DataRow.{DataRow}
use Rattle.am_filter.specs.declared.rows.DataRows.{DataRows}
use Rattle.am_filter.specs.Rows.{with_paths, with_row, no_rows}
use Rattle.am_uri.specs.Texts.{with_text}
use Rattle.am_wire_fields.specs.declared.fault.WireFault.{WireFault}
use Rattle.am_wire_fields.specs.Lists.{each}
use Rattle.am_types.specs.Reading.{◌>>=◌}
use Rattle.am_wire_intents.specs.Filters.{row_in}
use Rattle.am_wire_values.specs.Filters.{scheme_row, authority_row, path_row, type_row, rows_of}
use Rattle.am_wire_read_back.proofs.Lists.{sorted_again}
use Rattle.am_wire_read_back.proofs.Rows.{paths_with, row_with_scheme, row_with_authority, row_with_path, row_with_type, ReadRows}
use Rattle.am_wire_read_back.proofs.Steps.{step, steps, same_ok}

-- ---- reading row by row

each_onto : {A : Type 0} (read : Data → Result A WireFault) (vs ws : List Data) (xs ys : List A) → each read vs ≡ Ok xs
    → each read ws ≡ Ok ys → each read (vs ++ ws) ≡ Ok (xs ++ ys)
unfolding each
each_onto read [] ws xs ys h k = let P : List _ → Type 0 = λ zs. each read ws
    ≡ Ok (zs ++ ys) in subst P (same_ok [] xs h) k
each_onto read (v ∷ vs) ws xs ys h k =
    let one = step (read v) (λ first. each read vs >>= λ others. Ok (first ∷ others)) xs h in
    let two = step (each read vs) (λ others. Ok (one.value ∷ others)) xs one.later in
    let P : List _ → Type 0 = λ zs. each read (v ∷ (vs ++ ws)) ≡ Ok (zs ++ ys) in
    subst P (same_ok (one.value ∷ two.value) xs two.later)
    (steps (read v) (λ first. each read (vs ++ ws) >>= λ others. Ok (first ∷ others)) one.value
    ((one.value ∷ two.value) ++ ys) one.first
    (steps (each read (vs ++ ws)) (λ others. Ok (one.value ∷ others)) (two.value ++ ys) ((one.value ∷ two.value) ++ ys)
    (each_onto read vs ws two.value ys two.first k) refl))

each_mapped : {A B : Type 0} (read : Data → Result B WireFault) (write : A → Data) (got : A → B) (xs : List A)
    → AllByRecursion (λ x. read (write x) ≡ Ok (got x)) xs → each read (map write xs) ≡ Ok (map got xs)
unfolding each
each_mapped read write got [] h = refl
each_mapped read write got (x ∷ xs) h =
    steps (read (write x)) (λ first. each read (map write xs) >>= λ others. Ok (first ∷ others)) (got x)
    (got x ∷ map got xs) h.0
    (steps (each read (map write xs)) (λ others. Ok (got x ∷ others)) (map got xs) (got x ∷ map got xs)
    (each_mapped read write got xs h.1) refl)

-- what is read of the rows of a filter
abbrev pub rows_said : Filter → List DataRow
rows_said f = ((map row_with_scheme f.schemes ++ map row_with_authority f.authorities) ++ map row_with_path f.paths)
    ++ map row_with_type f.types

-- ---- merging

fold_onto : (rows : DataRows) (xs ys : List DataRow) → fold with_row rows (xs ++ ys)
    ≡ fold with_row (fold with_row rows xs) ys
fold_onto rows [] ys = refl
fold_onto rows (x ∷ xs) ys = fold_onto (with_row rows x) xs ys

four_nils : (rules : List PathRule) → (((rules ++ []) ++ []) ++ []) ++ [] ≡ rules
four_nils rules = simp append-nil

one_path : (rules : List PathRule) (rule : PathRule) → with_paths rules (paths_with rule) ≡ rules ++ rule ∷ []
one_path rules (Literal text) = simp append-nil
one_path rules (Prefix text) = simp append-nil
one_path rules (Suffix text) = simp append-nil
one_path rules (Pattern text) = simp append-nil

one_scheme : (rows : DataRows) (text : List ℕ) → with_row rows (row_with_scheme text)
    ≡ record rows { schemes = with_text rows.schemes text }
one_scheme rows text = λ i. record {
  schemes = with_text rows.schemes text;
  authorities = append-nil rows.authorities i;
  paths = four_nils rows.paths i;
  types = append-nil rows.types i;
}

one_authority : (rows : DataRows) (a : Authority) → with_row rows (row_with_authority a)
    ≡ record rows { authorities = rows.authorities ++ a ∷ [] }
one_authority rows a = λ i. record rows {
  authorities = rows.authorities ++ a ∷ [];
  paths = four_nils rows.paths i;
  types = append-nil rows.types i;
}

one_rule : (rows : DataRows) (rule : PathRule) → with_row rows (row_with_path rule)
    ≡ record rows { paths = rows.paths ++ rule ∷ [] }
one_rule rows rule = λ i. record rows {
  authorities = append-nil rows.authorities i;
  paths = one_path rows.paths rule i;
  types = append-nil rows.types i;
}

one_type : (rows : DataRows) (mime : Mime) → with_row rows (row_with_type mime)
    ≡ record rows { types = rows.types ++ mime ∷ [] }
one_type rows mime = λ i. record rows {
  authorities = append-nil rows.authorities i;
  paths = four_nils rows.paths i;
  types = rows.types ++ mime ∷ [];
}

merge_schemes : (texts : List (List ℕ)) (rows : DataRows) → fold with_row rows (map row_with_scheme texts)
    ≡ record rows { schemes = fold with_text rows.schemes texts }
merge_schemes [] rows = refl
merge_schemes (text ∷ texts) rows =
    ap (λ (r : DataRows). fold with_row r (map row_with_scheme texts)) (one_scheme rows text)
    ∙ merge_schemes texts (record rows { schemes = with_text rows.schemes text })

grouped : {A : Type 0} (xs : List A) (y : A) (ys : List A) → (xs ++ y ∷ []) ++ ys ≡ xs ++ y ∷ ys
grouped xs y ys = simp append_assoc

-- rows that each add one to a list add all to it
merge_by : {A : Type 0} (row_with : A → DataRow) (with_these : List A → DataRows)
    → ((xs : List A) (x : A) → with_row (with_these xs) (row_with x) ≡ with_these (xs ++ x ∷ [])) → (xs ys : List A)
    → fold with_row (with_these xs) (map row_with ys) ≡ with_these (xs ++ ys)
merge_by row_with with_these one xs [] = ap with_these (sym (append-nil xs))
merge_by row_with with_these one xs (y ∷ ys) =
    ap (λ (r : DataRows). fold with_row r (map row_with ys)) (one xs y)
    ∙ (merge_by row_with with_these one (xs ++ y ∷ []) ys ∙ ap with_these (grouped xs y ys))

merge_authorities : (all : List Authority) (rows : DataRows) → fold with_row rows (map row_with_authority all)
    ≡ record rows { authorities = rows.authorities ++ all }
merge_authorities all rows = merge_by row_with_authority (λ xs. record rows { authorities = xs })
    (λ xs a. one_authority (record rows { authorities = xs }) a) rows.authorities all

merge_paths : (rules : List PathRule) (rows : DataRows) → fold with_row rows (map row_with_path rules)
    ≡ record rows { paths = rows.paths ++ rules }
merge_paths rules rows = merge_by row_with_path (λ xs. record rows { paths = xs })
    (λ xs rule. one_rule (record rows { paths = xs }) rule) rows.paths rules

merge_types : (mimes : List Mime) (rows : DataRows) → fold with_row rows (map row_with_type mimes)
    ≡ record rows { types = rows.types ++ mimes }
merge_types mimes rows = merge_by row_with_type (λ xs. record rows { types = xs })
    (λ xs mime. one_type (record rows { types = xs }) mime) rows.types mimes

-- what a filter lists, as merged rows
abbrev pub listed_by : Filter → DataRows
listed_by f = record { schemes = f.schemes; authorities = f.authorities; paths = f.paths; types = f.types }

pub merged_again : (f : Filter) → ReadRows (listed_by f) → fold with_row no_rows (rows_said f) ≡ listed_by f
merged_again f r =
    let ss = map row_with_scheme f.schemes in
    let auths = map row_with_authority f.authorities in
    let ps = map row_with_path f.paths in
    let ts = map row_with_type f.types in
    let one : fold with_row no_rows ss ≡ record { schemes = f.schemes; authorities = []; paths = []; types = [] } =
    merge_schemes f.schemes no_rows ∙ ap (λ (texts : List (List ℕ)). record
    { schemes = texts; authorities = []; paths = []; types = [] }) (sorted_again f.schemes r.sorted) in
    let two : fold with_row no_rows (ss ++ auths) ≡ record {
      schemes = f.schemes;
      authorities = f.authorities;
      paths =
          [];
      types = [];
    } =
    fold_onto no_rows ss auths ∙ (ap (λ (rows : DataRows). fold with_row rows auths) one
    ∙ merge_authorities f.authorities _) in
    let three : fold with_row no_rows ((ss ++ auths) ++ ps) ≡ record
    { schemes = f.schemes; authorities = f.authorities; paths = f.paths; types = [] } =
    fold_onto no_rows (ss ++ auths) ps ∙ (ap (λ (rows : DataRows). fold with_row rows ps) two ∙ merge_paths f.paths _)
    in
    fold_onto no_rows ((ss ++ auths) ++ ps) ts ∙ (ap (λ (rows : DataRows). fold with_row rows ts) three
    ∙ merge_types f.types _)

pub each_row_again : (f : Filter) → ReadRows (listed_by f) → each row_in (rows_of f) ≡ Ok (rows_said f)
unfolding rows_of
each_row_again f r =
    each_onto row_in ((map scheme_row f.schemes ++ map authority_row f.authorities) ++ map path_row f.paths) _ _ _
    (each_onto row_in (map scheme_row f.schemes ++ map authority_row f.authorities) _ _ _
    (each_onto row_in (map scheme_row f.schemes) _ _ _ (each_mapped row_in scheme_row row_with_scheme f.schemes
    r.schemes) (each_mapped row_in authority_row row_with_authority f.authorities r.authorities))
    (each_mapped row_in path_row row_with_path f.paths r.paths))
    (each_mapped row_in type_row row_with_type f.types r.types)
