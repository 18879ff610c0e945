-- Kept rows by their keys.
use Rattle.std.proofs.Common.{◌≡◌, ℕ, inl, inr, List, [], ◌∷◌, map, Option, Some, None, pos, refl, sym, ap, ◌∙◌}
use Rattle.std.specs.Prelude.{option_map}
use Rattle.std.specs.Str.{is_utf8}
use Rattle.std.proofs.lemmas.Bool.{cases_Bool}
use Rattle.std.specs.declared.cmp.Ordering.TheVariants.{Equal}
use Rattle.std.specs.Ordering.{nat_cmp, ordering_then}
use Rattle.std.specs.Cmp.Lexicographic.{slice_cmp}
use Rattle.std.proofs.lemmas.Cmp.{tied_itself, nat_cmp_total}
use Rattle.std.proofs.lemmas.Map.Lookups.{exact_unsigned, exact_bytes}
use Rattle.sqlite.specs.declared.types.Value.{Value}
use Rattle.sqlite.specs.declared.types.Value.TheVariants.{Null, Int, Real, Text, Blob}
use Rattle.sqlite.specs.Order.{Row, column}
use Rattle.sqlite_value.proofs.KeyLemmas.{then_tied}
use Rattle.am_keeper.specs.declared.rows.PackageRow.{PackageRow}
use Rattle.am_keeper.specs.declared.rows.Row.{Row as Kept}
use Rattle.am_keeper.specs.declared.rows.Row.TheVariants.{Package, Grant, Link}
use Rattle.am_keeper.specs.declared.rows.Rows.{Rows}
use Rattle.am_keeper.specs.Rows.{by_uid, by_grant, by_link, with_row}
use Rattle.am_keeper.proofs.InOrder.{by_uid-total, by_grant-total, by_link-total}
use Rattle.am_rows.specs.declared.Cell.{Cell}
use Rattle.am_rows.specs.declared.Cell.TheVariants.{Whole, Words}
use Rattle.am_rows.specs.Cells.{◌>>=◌, row_in}
use Rattle.am_rows.proofs.Cells.{cells_of-row_in}
use Rattle.am_keeper_sql.specs.Told.{value_of, values_for, cell_in, cells_in, row_said}
use Rattle.am_keeper_sql.proofs.Commutes.{put_in-tied, put_in-apart}

-- the kind, the uid and the word of a kept row
abbrev pub key_of : Kept → Row
key_of (Package row) = Int (pos 0) ∷ Int (pos row.uid) ∷ Text [] ∷ []
key_of (Grant row) = Int (pos 1) ∷ Int (pos row.uid) ∷ Text row.permission ∷ []
key_of (Link row) = Int (pos 2) ∷ Int (pos row.uid) ∷ Text row.host ∷ []

-- the same of values
abbrev pub key : Row → Row
key values = column values 0 ∷ column values 1 ∷ column values 2 ∷ []

pub key-values_for : (row : Kept) → key (values_for row) ≡ key_of row
key-values_for (Package row) = refl
key-values_for (Grant row) = refl
key-values_for (Link row) = refl

-- values that are read as cells are those of the cells
value_of-cell_in : (v : Value) (c : Cell) → cell_in v ≡ Some c → value_of c ≡ v
value_of-cell_in Null c h = absurd (let e = h in cc)
value_of-cell_in (Int n) c h = let same : Whole n ≡ c = (let e = h in cc) in ap value_of (sym same)
value_of-cell_in (Real x) c h = absurd (let e = h in cc)
value_of-cell_in (Text t) c h = elim (cases_Bool (is_utf8 t)) [
  | inl fits ↦ let same : Words t ≡ c = (let e = rw fits at h in cc) in ap value_of (sym same)
  | inr other ↦ absurd (let e = rw other at h in cc)
]
value_of-cell_in (Blob b) c h = absurd (let e = h in cc)

-- a chain that gave something gave it through each step
pub through : {A B : Type 0} (o : Option A) (f : A → Option B) (b : B) → (o >>= f) ≡ Some b → (a : A) × (o ≡ Some a)
    × (f a ≡ Some b)
through None f b h = absurd (let e = h in cc)
through (Some a) f b h = (a, refl, h)

pub mapped : {A B : Type 0} (o : Option A) (f : A → B) (b : B) → option_map f o ≡ Some b → (a : A) × (o ≡ Some a)
    × (f a ≡ b)
mapped None f b h = absurd (let e = h in cc)
mapped (Some a) f b h = (a, refl, (let e = h in cc))

pub cells_in-are : (values : Row) (cells : List Cell) → cells_in values ≡ Some cells → map value_of cells ≡ values
cells_in-are [] cells h = let same : [] ≡ cells = (let e = h in cc) in ap (map value_of) (sym same)
cells_in-are (v ∷ vs) cells h =
    let first = through (cell_in v) _ cells h in
    let rest = mapped (cells_in vs) _ cells first.2 in
    let both : value_of first.0 ∷ map value_of rest.0 ≡ v ∷ vs = rw
    (value_of-cell_in v first.0 first.1, cells_in-are vs rest.0 rest.1) in
    ap (map value_of) (sym rest.2) ∙ both

-- values that say a kept row are its values
pub values_for-said : (values : Row) (row : Kept) → row_said values ≡ Some row → values ≡ values_for row
values_for-said values row h =
    let cells = through (cells_in values) row_in row h in
    sym (cells_in-are values cells.0 cells.1) ∙ ap (map value_of) (sym (cells_of-row_in cells.0 row cells.2))

pub said-values : (values : Row) (cells : List Cell) → cells_in values ≡ Some cells → row_said values ≡ row_in cells
said-values values cells h = ap (λ o. o >>= row_in) h

pub key-said : (values : Row) (row : Kept) → row_said values ≡ Some row → key values ≡ key_of row
key-said values row h = ap key (values_for-said values row h) ∙ key-values_for row

-- two rights that tie are of one uid and text
same_right : (uid other : ℕ) (text words : List ℕ) → ordering_then (nat_cmp uid other) (slice_cmp nat_cmp text words)
    ≡ Equal → (uid ≡ other) × (text ≡ words)
same_right uid other text words tie = let parts = then_tied (nat_cmp uid other) _ tie in
    (exact_unsigned uid other parts.0, exact_bytes text words parts.1)

same_package : (x y : PackageRow) → by_uid x y ≡ Equal → key_of (Package x) ≡ key_of (Package y)
same_package x y tie = let uid : x.uid ≡ y.uid = exact_unsigned x.uid y.uid tie in rw uid

-- rows of two keys are put in either order
pub with_row-apart : (rows : Rows) (a b : Kept) → (key_of a ≡ key_of b → ⊥) → with_row (with_row rows a) b
    ≡ with_row (with_row rows b) a
with_row-apart rows (Package x) (Package y) apart = ap (λ all. record rows { packages = all })
    (put_in-apart by_uid by_uid-total x y (λ tie. apart (same_package x y tie)) rows.packages)
with_row-apart rows (Grant x) (Grant y) apart = ap (λ all. record rows { grants = all })
    (put_in-apart by_grant by_grant-total x y (λ tie.
    let same = same_right x.uid y.uid x.permission y.permission tie in apart (rw (same.0, same.1)))
    rows.grants)
with_row-apart rows (Link x) (Link y) apart = ap (λ all. record rows { links = all })
    (put_in-apart by_link by_link-total x y (λ tie.
    let same = same_right x.uid y.uid x.host y.host tie in apart (rw (same.0, same.1)))
    rows.links)
with_row-apart rows (Package x) (Grant y) apart = refl
with_row-apart rows (Package x) (Link y) apart = refl
with_row-apart rows (Grant x) (Package y) apart = refl
with_row-apart rows (Grant x) (Link y) apart = refl
with_row-apart rows (Link x) (Package y) apart = refl
with_row-apart rows (Link x) (Grant y) apart = refl

-- the later of two rows of one key stands
pub with_row-tied : (rows : Rows) (a b : Kept) → key_of a ≡ key_of b → with_row (with_row rows a) b ≡ with_row rows b
with_row-tied rows (Package x) (Package y) same =
    let uid : x.uid ≡ y.uid = (let e = same in cc) in
    let tie : by_uid x y ≡ Equal = rw (uid, tied_itself nat_cmp_total y.uid) in
    ap (λ all. record rows { packages = all }) (put_in-tied by_uid by_uid-total y x tie rows.packages)
with_row-tied rows (Grant x) (Grant y) same =
    let uid : x.uid ≡ y.uid = (let e = same in cc) in
    let permission : x.permission ≡ y.permission = (let e = same in cc) in
    let tie : by_grant x y ≡ Equal = rw (uid, permission, tied_itself by_grant-total y) in
    ap (λ all. record rows { grants = all }) (put_in-tied by_grant by_grant-total y x tie rows.grants)
with_row-tied rows (Link x) (Link y) same =
    let uid : x.uid ≡ y.uid = (let e = same in cc) in
    let host : x.host ≡ y.host = (let e = same in cc) in
    let tie : by_link x y ≡ Equal = rw (uid, host, tied_itself by_link-total y) in
    ap (λ all. record rows { links = all }) (put_in-tied by_link by_link-total y x tie rows.links)
with_row-tied rows (Package x) (Grant y) same = absurd (let e = same in cc)
with_row-tied rows (Package x) (Link y) same = absurd (let e = same in cc)
with_row-tied rows (Grant x) (Package y) same = absurd (let e = same in cc)
with_row-tied rows (Grant x) (Link y) same = absurd (let e = same in cc)
with_row-tied rows (Link x) (Package y) same = absurd (let e = same in cc)
with_row-tied rows (Link x) (Grant y) same = absurd (let e = same in cc)

-- what is read from the cells of values is what these say
pub row_said_from : (values : Row) (cells : List Cell) (row : Kept) → cells_in values ≡ Some cells → row_in cells
    ≡ Some row → row_said values ≡ Some row
row_said_from values cells row h k = said-values values cells h ∙ k
