-- The rows of a filter: what was read of them is read of the rows that are written for it.
use Rattle.std.proofs.Common.{◌≡◌, ℕ, true, cond, List, [], ◌∷◌, ◌++◌, length, fold, Option, Some, None, option_map, option_and_then, Result, Ok, Err, nat_cmp, refl, ap, ◌∙◌, subst}
use Rattle.std.specs.Prelude.{codes, nat_lt}
use Rattle.std.specs.Cmp.Lexicographic.{slice_cmp}
use Rattle.std.specs.List.{AllByRecursion}
use Rattle.std.proofs.lemmas.Cmp.{nat_list_cmp_total}
use Rattle.serde_json.specs.Data.{Data, string, object}
use Rattle.serde_json.specs.Find.{as_str, as_number, as_u64}
use Rattle.am_types.specs.declared.filter.Authority.{Authority}
use Rattle.am_types.specs.declared.filter.PathRule.{PathRule}
use Rattle.am_types.specs.declared.filter.PathRule.TheVariants.{Literal, Prefix, Suffix, Pattern}
use Rattle.am_types.specs.declared.uri.Mime.{Mime}
use Rattle.am_model.specs.Uris.{is_scheme}
use Rattle.am_filter.specs.declared.rows.Paths.{Paths}
use Rattle.am_filter.specs.declared.rows.DataRow.{DataRow}
use Rattle.am_filter.specs.declared.rows.DataRows.{DataRows}
use Rattle.am_uri.specs.declared.text.Form.TheVariants.{Filled}
use Rattle.am_filter.specs.Rows.{listed, with_paths, with_row, no_rows}
use Rattle.am_uri.specs.Texts.{with_optional}
use Rattle.am_uri.proofs.Order.{sorted_put}
use Rattle.am_wire_fields.specs.declared.fault.WireFault.{WireFault}
use Rattle.am_wire_fields.specs.declared.fault.WireFault.TheVariants.{WrongKind, TooLong}
use Rattle.am_wire_fields.specs.Fields.{unless_null, field, if_said, only_fields}
use Rattle.am_wire_fields.specs.Lists.{each}
use Rattle.am_types.specs.Reading.{◌>>=◌}
use Rattle.am_wire_fields.specs.Texts.{text_in, optional_text}
use Rattle.am_wire_intents.specs.Filters.{scheme_of, scheme_at, port_of, port_at, authority_at, paths_at, row_of, row_fields, row_in}
use Rattle.am_wire_intents.specs.Intents.{mime_in, optional_mime}
use Rattle.am_wire_values.specs.Fields.{natural}
use Rattle.am_wire_values.specs.Filters.{scheme_row, authority_row, path_row, type_row}
use Rattle.am_wire_values.specs.Intents.{mime_data}
use Rattle.am_wire_read_back.proofs.Components.{mime_again}
use Rattle.am_wire_read_back.proofs.Kept.{IsKept, ForSome, field_kept}
use Rattle.am_wire_read_back.proofs.Lists.{AreKept, AreSorted, none_sorted, all_put}
use Rattle.am_wire_read_back.proofs.Objects.{Entry, members_with, value_at, are_apart, field_at, only_listed}
use Rattle.am_wire_read_back.proofs.Options.{IsFieldReread, IsReread, option_field}
use Rattle.am_wire_read_back.proofs.Steps.{step, steps, same_ok}
use Rattle.am_wire_read_back.proofs.Texts.{if_read, else_read, text_again, text_field}

-- ---- the parts of a row

-- the contents of a row that has one key
abbrev pub row_with_scheme : List ℕ → DataRow
row_with_scheme text = record {
  scheme = Some text;
  authority = None;
  paths = record
      { literal = None; prefix = None; suffix = None; pattern = None };
  mime = None;
}

abbrev pub row_with_authority : Authority → DataRow
row_with_authority authority = record {
  scheme = None;
  authority = Some authority;
  paths = record
      { literal = None; prefix = None; suffix = None; pattern = None };
  mime = None;
}

abbrev pub paths_with : PathRule → Paths
paths_with (Literal text) = record { literal = Some text; prefix = None; suffix = None; pattern = None }
paths_with (Prefix text) = record { literal = None; prefix = Some text; suffix = None; pattern = None }
paths_with (Suffix text) = record { literal = None; prefix = None; suffix = Some text; pattern = None }
paths_with (Pattern text) = record { literal = None; prefix = None; suffix = None; pattern = Some text }

abbrev pub row_with_path : PathRule → DataRow
row_with_path rule = record { scheme = None; authority = None; paths = paths_with rule; mime = None }

abbrev pub row_with_type : Mime → DataRow
row_with_type mime = record {
  scheme = None;
  authority = None;
  paths = record
      { literal = None; prefix = None; suffix = None; pattern = None };
  mime = Some mime;
}

-- what is read of the row that is written for one of them
abbrev pub ReadsScheme : List ℕ → Type 0
ReadsScheme text = row_in (scheme_row text) ≡ Ok (row_with_scheme text)

abbrev pub ReadsAuthority : Authority → Type 0
ReadsAuthority authority = row_in (authority_row authority) ≡ Ok (row_with_authority authority)

abbrev pub ReadsPath : PathRule → Type 0
ReadsPath rule = row_in (path_row rule) ≡ Ok (row_with_path rule)

abbrev pub ReadsType : Mime → Type 0
ReadsType mime = row_in (type_row mime) ≡ Ok (row_with_type mime)

-- of a value that was said, it is read again
said_is_read : {A : Type 0} (read : Data → Result A WireFault) (write : A → Data) → IsReread read write
    → (value : Option Data) (o : Option A) → ForSome IsKept value → if_said read value ≡ Ok o
    → ForSome (λ x. read (write x) ≡ Ok x) o
said_is_read read write again None o k h = subst (ForSome (λ x. read (write x) ≡ Ok x)) (same_ok None o h) tt
said_is_read read write again (Some value) o k h =
    let s = step (read value) (λ x. Ok (Some x)) o h in
    subst (ForSome (λ x. read (write x) ≡ Ok x)) (same_ok (Some s.value) o s.later) (again value s.value k s.first)

for_some : {A : Type 0} (P Q : A → Type 0) → ((x : A) → P x → Q x) → (o : Option A) → ForSome P o → ForSome Q o
for_some P Q f None h = tt
for_some P Q f (Some x) h = f x h

-- ---- schemes

scheme_of_again : (o : Option (List ℕ)) (text : List ℕ) → scheme_of o ≡ Ok text → scheme_of (Some text) ≡ Ok text
unfolding scheme_of
scheme_of_again None text h = absurd (cc)
scheme_of_again (Some said) text h =
    let good = if_read (is_scheme said) (cond (nat_lt 1024 (length said)) (Err (TooLong (codes "scheme"))) (Ok said))
    (WrongKind (codes "scheme")) text h in
    let short = else_read (nat_lt 1024 (length said)) (TooLong (codes "scheme")) (Ok said) text good.1 in
    let P : List ℕ → Type 0 = λ t. scheme_of (Some t) ≡ Ok text in
    subst P (same_ok said text short.1) h

reads_scheme : (text : List ℕ) → scheme_of (Some text) ≡ Ok text → ReadsScheme text
unfolding row_in row_of scheme_at authority_at port_at paths_at optional_mime optional_text field
reads_scheme text h =
    let d = scheme_row text in
    steps (only_fields (codes "data") row_fields d) (λ known. row_of d) tt (row_with_scheme text)
    (only_listed (codes "data") row_fields ((codes "scheme", Some (string text)) ∷ []) refl)
    (steps (scheme_at d) _ (Some text) (row_with_scheme text) (steps (scheme_of (Some text))
    (λ scheme. Ok (Some scheme)) text (Some text) h refl) refl)

scheme_read : (value : Data) (o : Option (List ℕ)) → IsKept value → scheme_at value ≡ Ok o → ForSome ReadsScheme o
unfolding scheme_at
scheme_read value o k h =
    for_some _ ReadsScheme reads_scheme o
    (said_is_read (λ value. scheme_of (as_str value)) string (λ value text k h. scheme_of_again (as_str value) text h)
    (field (codes "scheme") value) o (field_kept (codes "scheme") value k) h)

-- ---- authorities

port_of_again : (o : Option ℕ) (n : ℕ) → port_of o ≡ Ok n → port_of (Some n) ≡ Ok n
unfolding port_of
port_of_again None n h = absurd (cc)
port_of_again (Some said) n h =
    let short = else_read (nat_lt 99999 said) (WrongKind (codes "port")) (Ok said) n h in
    let P : ℕ → Type 0 = λ m. port_of (Some m) ≡ Ok n in
    subst P (same_ok said n short.1) h

port_field : IsFieldReread (codes "port") port_at (option_map natural)
unfolding port_at
port_field =
    option_field (λ value. port_of (option_and_then as_u64 (as_number value))) natural
    (λ value n k h. port_of_again (option_and_then as_u64 (as_number value)) n h) (λ n. refl)
    (codes "port")

abbrev authority_entries : Authority → List Entry
authority_entries authority = (codes "port", option_map natural authority.port)
    ∷ (codes "host", Some (string authority.host)) ∷ []

no_text : (name : List ℕ) (es : List Entry) → are_apart es ≡ true → value_at name es ≡ None
    → optional_text Filled 1024 name (object (members_with es)) ≡ Ok None
unfolding optional_text
no_text name es apart is = ap (if_said (text_in Filled 1024 name)) (field_at name es apart ∙ ap unless_null is)

no_scheme : (es : List Entry) → are_apart es ≡ true → value_at (codes "scheme") es ≡ None
    → scheme_at (object (members_with es)) ≡ Ok None
unfolding scheme_at
no_scheme es apart is = ap (if_said (λ value. scheme_of (as_str value)))
    (field_at (codes "scheme") es apart ∙ ap unless_null is)

no_type : (es : List Entry) → are_apart es ≡ true → value_at (codes "mimeType") es ≡ None
    → optional_mime Filled (codes "mimeType") (object (members_with es)) ≡ Ok None
unfolding optional_mime
no_type es apart is = ap (if_said (mime_in Filled (codes "mimeType")))
    (field_at (codes "mimeType") es apart ∙ ap unless_null is)

no_paths : (es : List Entry) → are_apart es ≡ true → value_at (codes "path") es ≡ None
    → value_at (codes "pathPrefix") es ≡ None → value_at (codes "pathSuffix") es ≡ None
    → value_at (codes "pathPattern") es ≡ None
    → paths_at (object (members_with es)) ≡ Ok (record { literal = None; prefix = None; suffix = None; pattern = None })
unfolding paths_at
no_paths es apart p1 p2 p3 p4 =
    let d = object (members_with es) in
    steps (optional_text Filled 1024 (codes "path") d) _ None _ (no_text (codes "path") es apart p1)
    (steps (optional_text Filled 1024 (codes "pathPrefix") d) _ None _ (no_text (codes "pathPrefix") es apart p2)
    (steps (optional_text Filled 1024 (codes "pathSuffix") d) _ None _ (no_text (codes "pathSuffix") es apart p3)
    (steps (optional_text Filled 1024 (codes "pathPattern") d) _ None _ (no_text (codes "pathPattern") es apart p4)
    refl)))

reads_authority : (value : Data) (host : List ℕ) (port : Option ℕ) → IsKept value
    → optional_text Filled 1024 (codes "host") value ≡ Ok (Some host) → port_at value ≡ Ok port
    → ReadsAuthority (record { host = host; port = port })
unfolding row_in row_of authority_at
reads_authority value host port k h p =
    let a : Authority = record { host = host; port = port } in
    let es = authority_entries a in
    let d = object (members_with es) in
    steps (only_fields (codes "data") row_fields d) (λ known. row_of d) tt (row_with_authority a)
    (only_listed (codes "data") row_fields es refl)
    (steps (scheme_at d) _ None (row_with_authority a) (no_scheme es refl refl)
    (steps (authority_at d) _ (Some a) (row_with_authority a)
    (steps (optional_text Filled 1024 (codes "host") d) _ (Some host) (Some a)
    (text_field Filled 1024 (codes "host") value (Some host) es k h refl refl)
    (steps (port_at d) _ port (Some a) (port_field value port es k p refl refl) refl))
    (steps (paths_at d) _ _ (row_with_authority a) (no_paths es refl refl refl refl refl)
    (steps (optional_mime Filled (codes "mimeType") d) _ None (row_with_authority a) (no_type es refl refl) refl))))

authority_of : (value : Data) (host : Option (List ℕ)) (port : Option ℕ) → IsKept value
    → optional_text Filled 1024 (codes "host") value ≡ Ok host → port_at value ≡ Ok port
    → ForSome ReadsAuthority (option_map {U = Authority} (λ name. record { host = name; port = port }) host)
authority_of value None port k h p = tt
authority_of value (Some host) port k h p = reads_authority value host port k h p

authority_read : (value : Data) (o : Option Authority) → IsKept value → authority_at value ≡ Ok o
    → ForSome ReadsAuthority o
unfolding authority_at
authority_read value o k h =
    let one = step (optional_text Filled 1024 (codes "host") value) _ o h in
    let two = step (port_at value) _ o one.later in
    let got : Option Authority = option_map (λ name. record { host = name; port = two.value }) one.value in
    subst (ForSome ReadsAuthority) (same_ok got o two.later) (authority_of value one.value two.value k one.first
    two.first)

-- ---- paths

-- a text that is read again
abbrev IsSaid : List ℕ → List ℕ → Type 0
IsSaid name text = text_in Filled 1024 name (string text) ≡ Ok text

path_said : (name : List ℕ) (value : Data) (o : Option (List ℕ)) → IsKept value → optional_text Filled 1024 name value
    ≡ Ok o → ForSome (IsSaid name) o
unfolding optional_text
path_said name value o k h = said_is_read (text_in Filled 1024 name) string (text_again Filled 1024 name)
    (field name value) o (field_kept name value k) h

reads_path : (rule : PathRule) (d : Data) → only_fields (codes "data") row_fields d ≡ Ok tt → scheme_at d ≡ Ok None
    → authority_at d ≡ Ok None → paths_at d ≡ Ok (paths_with rule) → optional_mime Filled (codes "mimeType") d ≡ Ok None
    → row_in d ≡ Ok (row_with_path rule)
unfolding row_in row_of
reads_path rule d known s a p t =
    steps (only_fields (codes "data") row_fields d) (λ known. row_of d) tt (row_with_path rule) known
    (steps (scheme_at d) _ None (row_with_path rule) s (steps (authority_at d) _ None (row_with_path rule) a
    (steps (paths_at d) _ (paths_with rule) (row_with_path rule) p
    (steps (optional_mime Filled (codes "mimeType") d) _ None (row_with_path rule) t refl))))

-- the text of a path rule is read again under its key
abbrev IsPathSaid : PathRule → Type 0
IsPathSaid (Literal text) = IsSaid (codes "path") text
IsPathSaid (Prefix text) = IsSaid (codes "pathPrefix") text
IsPathSaid (Suffix text) = IsSaid (codes "pathSuffix") text
IsPathSaid (Pattern text) = IsSaid (codes "pathPattern") text

-- if a text is read, what is read after it
said_then : (name text : List ℕ) (more : Option (List ℕ) → Result Paths WireFault) (got : Paths) → IsSaid name text
    → more (Some text) ≡ Ok got
    → ((text_in Filled 1024 name (string text) >>= λ t. Ok (Some t)) >>= more) ≡ Ok got
said_then name text more got h e =
    steps (text_in Filled 1024 name (string text) >>= λ t. Ok (Some t)) more (Some text) got
    (steps (text_in Filled 1024 name (string text)) (λ t. Ok (Some t)) text (Some text) h refl) e

reads_rule : (rule : PathRule) → IsPathSaid rule → ReadsPath rule
unfolding scheme_at authority_at port_at paths_at optional_mime optional_text field
reads_rule (Literal text) h =
    reads_path (Literal text) (path_row (Literal text)) (only_listed (codes "data") row_fields
    ((codes "path", Some (string text)) ∷ []) refl) refl refl (said_then (codes "path") text _
    (paths_with (Literal text)) h refl) refl
reads_rule (Prefix text) h =
    reads_path (Prefix text) (path_row (Prefix text)) (only_listed (codes "data") row_fields
    ((codes "pathPrefix", Some (string text)) ∷ []) refl) refl refl
    (said_then (codes "pathPrefix") text _ (paths_with (Prefix text)) h refl) refl
reads_rule (Suffix text) h =
    reads_path (Suffix text) (path_row (Suffix text)) (only_listed (codes "data") row_fields
    ((codes "pathSuffix", Some (string text)) ∷ []) refl) refl refl
    (said_then (codes "pathSuffix") text _ (paths_with (Suffix text)) h refl) refl
reads_rule (Pattern text) h =
    reads_path (Pattern text) (path_row (Pattern text)) (only_listed (codes "data") row_fields
    ((codes "pathPattern", Some (string text)) ∷ []) refl) refl refl
    (said_then (codes "pathPattern") text _ (paths_with (Pattern text)) h refl) refl

-- path rules that are each read again
pub record ReadPaths (paths : Paths) : Type 0 where
  pub literal : ForSome (λ text. ReadsPath (Literal text)) paths.literal
  pub prefix : ForSome (λ text. ReadsPath (Prefix text)) paths.prefix
  pub suffix : ForSome (λ text. ReadsPath (Suffix text)) paths.suffix
  pub pattern : ForSome (λ text. ReadsPath (Pattern text)) paths.pattern

paths_read : (value : Data) (paths : Paths) → IsKept value → paths_at value ≡ Ok paths → ReadPaths paths
unfolding paths_at
paths_read value paths k h =
    let one = step (optional_text Filled 1024 (codes "path") value) _ paths h in
    let two = step (optional_text Filled 1024 (codes "pathPrefix") value) _ paths one.later in
    let three = step (optional_text Filled 1024 (codes "pathSuffix") value) _ paths two.later in
    let four = step (optional_text Filled 1024 (codes "pathPattern") value) _ paths three.later in
    let got : Paths = record { literal = one.value; prefix = two.value; suffix = three.value; pattern = four.value } in
    subst ReadPaths (same_ok got paths four.later) (record {
      literal = for_some (IsSaid (codes "path")) (λ text. ReadsPath (Literal text)) (λ text. reads_rule (Literal text))
          one.value (path_said (codes "path") value one.value k one.first);
      prefix = for_some (IsSaid (codes "pathPrefix")) (λ text. ReadsPath (Prefix text))
          (λ text. reads_rule (Prefix text)) two.value (path_said (codes "pathPrefix") value two.value k two.first);
      suffix = for_some (IsSaid (codes "pathSuffix")) (λ text. ReadsPath (Suffix text))
          (λ text. reads_rule (Suffix text)) three.value (path_said (codes "pathSuffix") value three.value k
          three.first);
      pattern = for_some (IsSaid (codes "pathPattern")) (λ text. ReadsPath (Pattern text))
          (λ text. reads_rule (Pattern text)) four.value (path_said (codes "pathPattern") value four.value k
          four.first);
    })

-- ---- types

reads_type : (mime : Mime) → mime_in Filled (codes "mimeType") (mime_data mime) ≡ Ok mime → ReadsType mime
unfolding row_in row_of scheme_at authority_at port_at paths_at optional_mime optional_text field
reads_type mime h =
    let d = type_row mime in
    steps (only_fields (codes "data") row_fields d) (λ known. row_of d) tt (row_with_type mime)
    (only_listed (codes "data") row_fields ((codes "mimeType", Some (mime_data mime)) ∷ []) refl)
    (steps (optional_mime Filled (codes "mimeType") d) _ (Some mime) (row_with_type mime)
    (steps (mime_in Filled (codes "mimeType") (mime_data mime)) (λ mime. Ok (Some mime)) mime (Some mime) h refl)
    refl)

type_read : (value : Data) (o : Option Mime) → IsKept value → optional_mime Filled (codes "mimeType") value ≡ Ok o
    → ForSome ReadsType o
unfolding optional_mime
type_read value o k h =
    for_some _ ReadsType reads_type o
    (said_is_read (mime_in Filled (codes "mimeType")) mime_data (mime_again Filled (codes "mimeType"))
    (field (codes "mimeType") value) o (field_kept (codes "mimeType") value k) h)

-- ---- a row

-- a row whose parts are each read again
pub record ReadRow (row : DataRow) : Type 0 where
  pub scheme : ForSome ReadsScheme row.scheme
  pub authority : ForSome ReadsAuthority row.authority
  pub paths : ReadPaths row.paths
  pub mime : ForSome ReadsType row.mime

row_read : (value : Data) (row : DataRow) → IsKept value → row_in value ≡ Ok row → ReadRow row
unfolding row_in row_of
row_read value row k h =
    let one = step (only_fields (codes "data") row_fields value) (λ known. row_of value) row h in
    let two = step (scheme_at value) _ row one.later in
    let three = step (authority_at value) _ row two.later in
    let four = step (paths_at value) _ row three.later in
    let five = step (optional_mime Filled (codes "mimeType") value) _ row four.later in
    let got : DataRow = record { scheme = two.value; authority = three.value; paths = four.value; mime = five.value } in
    subst ReadRow (same_ok got row five.later) (record {
      scheme = scheme_read value two.value k two.first;
      authority = authority_read value three.value k three.first;
      paths = paths_read value four.value k four.first;
      mime = type_read value five.value k five.first;
    })

pub rows_read : (values : List Data) (rows : List DataRow) → AreKept values → each row_in values ≡ Ok rows
    → AllByRecursion ReadRow rows
unfolding each
rows_read [] rows k h = subst (AllByRecursion ReadRow) (same_ok [] rows h) tt
rows_read (v ∷ vs) rows k h =
    let one = step (row_in v) (λ first. each row_in vs >>= λ others. Ok (first ∷ others)) rows h in
    let two = step (each row_in vs) (λ others. Ok (one.value ∷ others)) rows one.later in
    subst (AllByRecursion ReadRow) (same_ok (one.value ∷ two.value) rows two.later)
    (row_read v one.value k.0 one.first, rows_read vs two.value k.1 two.first)

-- ---- rows merged

-- merged rows whose entries are each read again, with the schemes in order
pub record ReadRows (rows : DataRows) : Type 0 where
  pub schemes : AllByRecursion ReadsScheme rows.schemes
  pub sorted : AreSorted rows.schemes
  pub authorities : AllByRecursion ReadsAuthority rows.authorities
  pub paths : AllByRecursion ReadsPath rows.paths
  pub types : AllByRecursion ReadsType rows.types

all_append : {A : Type 0} (P : A → Type 0) (xs ys : List A) → AllByRecursion P xs → AllByRecursion P ys
    → AllByRecursion P (xs ++ ys)
all_append P [] ys h k = k
all_append P (x ∷ xs) ys h k = (h.0, all_append P xs ys h.1 k)

all_listed : {A : Type 0} (P : A → Type 0) (o : Option A) → ForSome P o → AllByRecursion P (listed o)
all_listed P None h = tt
all_listed P (Some x) h = (h, tt)

all_mapped : {A B : Type 0} (P : B → Type 0) (f : A → B) (o : Option A) → ForSome (λ x. P (f x)) o
    → AllByRecursion P (listed (option_map f o))
all_mapped P f None h = tt
all_mapped P f (Some x) h = (h, tt)

scheme_put : (schemes : List (List ℕ)) (o : Option (List ℕ)) → AllByRecursion ReadsScheme schemes
    → ForSome ReadsScheme o → AllByRecursion ReadsScheme (with_optional schemes o)
scheme_put schemes None h k = h
scheme_put schemes (Some text) h k = all_put ReadsScheme text schemes h k

scheme_sorted : (schemes : List (List ℕ)) (o : Option (List ℕ)) → AreSorted schemes
    → AreSorted (with_optional schemes o)
scheme_sorted schemes None h = h
scheme_sorted schemes (Some text) h = sorted_put (slice_cmp nat_cmp) nat_list_cmp_total text schemes h

paths_put : (rules : List PathRule) (paths : Paths) → AllByRecursion ReadsPath rules → ReadPaths paths
    → AllByRecursion ReadsPath (with_paths rules paths)
paths_put rules paths h k =
    all_append ReadsPath _ _ (all_append ReadsPath _ _ (all_append ReadsPath _ _
    (all_append ReadsPath rules _ h (all_mapped ReadsPath Literal paths.literal k.literal))
    (all_mapped ReadsPath Prefix paths.prefix k.prefix))
    (all_mapped ReadsPath Suffix paths.suffix k.suffix)) (all_mapped ReadsPath Pattern paths.pattern k.pattern)

one_more : (rows : DataRows) (row : DataRow) → ReadRows rows → ReadRow row → ReadRows (with_row rows row)
one_more rows row h k = record {
  schemes = scheme_put rows.schemes row.scheme h.schemes k.scheme;
  sorted = scheme_sorted rows.schemes row.scheme h.sorted;
  authorities = all_append ReadsAuthority rows.authorities _ h.authorities
      (all_listed ReadsAuthority row.authority k.authority);
  paths = paths_put rows.paths row.paths h.paths k.paths;
  types = all_append ReadsType rows.types _ h.types (all_listed ReadsType row.mime k.mime);
}

merged_onto : (front : DataRows) (rows : List DataRow) → ReadRows front → AllByRecursion ReadRow rows
    → ReadRows (fold with_row front rows)
merged_onto front [] h k = h
merged_onto front (row ∷ rows) h k = merged_onto (with_row front row) rows (one_more front row h k.0) k.1

-- rows that were read, merged
pub merged_read : (rows : List DataRow) → AllByRecursion ReadRow rows → ReadRows (fold with_row no_rows rows)
merged_read rows k = merged_onto no_rows rows (record {
  schemes = tt;
  sorted = none_sorted;
  authorities = tt;
  paths =
      tt;
  types = tt;
}) k
