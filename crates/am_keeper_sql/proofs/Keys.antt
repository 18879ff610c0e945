-- Rows of the table by their keys.
use Rattle.std.proofs.Common.{◌≡◌, inl, inr, ℕ, ℤ, pos, List, [], ◌∷◌, true, false, ◌&&◌, Option, Some, None, IsTrue, refl, sym, ap, ◌∙◌, subst, true≢false, Less}
use Rattle.std.specs.Prelude.{IsSome}
use Rattle.std.proofs.lemmas.Bool.{and_from, and_parts}
use Rattle.std.proofs.lemmas.Map.Lookups.{exact_signed, exact_bytes}
use Rattle.sqlite.specs.declared.types.Value.{Value}
use Rattle.sqlite.specs.declared.types.Value.TheVariants.{Int, Text}
use Rattle.sqlite.specs.Effect.{Database}
use Rattle.sqlite.specs.Order.{Row, column}
use Rattle.sqlite.specs.Tree.{rowid, IsTable}
use Rattle.sqlite_value.specs.declared.keys.Collation.{Collation}
use Rattle.sqlite_value.specs.declared.keys.Collation.TheVariants.{Binary}
use Rattle.sqlite_value.specs.declared.keys.Order.{Order}
use Rattle.sqlite_value.specs.Order.{value_cmp}
use Rattle.sqlite_value.specs.Keys.{plain}
use Rattle.sqlite_value.proofs.OrderLemmas.{value_cmp-Int, value_cmp-Text}
use Rattle.sqlite_value.proofs.KeyLemmas.{first_key-plain}
use Rattle.sqlite_trees.specs.Tree.{IsAscending}
use Rattle.sqlite_trees.specs.View.{is_int}
use Rattle.sqlite_trees.proofs.ListLemmas.{all_from_map, ascending-map}
use Rattle.sqlite_sql.specs.Ops.{is_null}
use Rattle.sqlite_schema.specs.Rules.{equal, agree, differ}
use Rattle.sqlite_rules.specs.Lists.{Has}
use Rattle.sqlite_rules.proofs.ListLemmas.{all_has, all_from, some_from}
use Rattle.sqlite_catalog.specs.Listing.{IsSound}
use Rattle.sqlite_catalog.proofs.AlterLemmas.{keys_are_unique}
use Rattle.am_keeper.specs.declared.rows.Row.{Row as Kept}
use Rattle.am_keeper.specs.declared.rows.Row.TheVariants.{Package, Grant, Link}
use Rattle.am_keeper_sql.specs.Table.{kept, kept_schema, values_of}
use Rattle.am_keeper_sql.specs.Told.{row_said, shown_in}
use Rattle.am_keeper_sql.proofs.Said.{AllSay}
use Rattle.am_keeper_sql.specs.Honest.{HoldsTable}
use Rattle.am_keeper_sql.proofs.Rows.{key, key_of, key-said}
use Rattle.am_keeper_sql.proofs.Permuted.{Apart, AreApart}
use Rattle.am_keeper_sql.proofs.Places.{equal_is, equal_itself, differ_below, tied_is, not_null}

abbrev pub places : List ℕ
places = 1 ∷ 2 ∷ 3 ∷ []

pub some_is : {X : Type 0} (o : Option X) → IsSome o → (x : X) × (o ≡ Some x)
some_is None h = absurd (true≢false (sym h))
some_is (Some x) h = (x, refl)

-- a kept row has a number, a number and a text as its key
pub key_shape : (row : Kept) → (k : ℤ) × (u : ℤ) × (w : List ℕ) × (key_of row ≡ Int k ∷ Int u ∷ Text w ∷ [])
key_shape (Package row) = (pos 0, pos row.uid, [], refl)
key_shape (Grant row) = (pos 1, pos row.uid, row.permission, refl)
key_shape (Link row) = (pos 2, pos row.uid, row.host, refl)

-- the key of a row that says a kept row
pub key_said : (r : Row) → IsSome (row_said (values_of r)) → (k : ℤ) × (u : ℤ) × (w : List ℕ)
    × (key (values_of r) ≡ Int k ∷ Int u ∷ Text w ∷ [])
key_said r says =
    let row = some_is _ says in
    let shape = key_shape row.0 in
    (shape.0, shape.1, shape.2, key-said (values_of r) row.0 row.1 ∙ shape.3)

equal_same : (how : Collation) (a b : Value) → a ≡ b → is_null b ≡ false → equal how a b ≡ true
equal_same how a b same p = subst (λ v. equal how v b ≡ true) (sym same) (equal_itself how b p)

-- rows of one key agree on it
pub agree_same : (o : Order) (a b : Row) → key (values_of a) ≡ key (values_of b) → IsSome (row_said (values_of b))
    → agree o places a places b ≡ true
agree_same o a b same says =
    let it = key_said b says in
    and_from _ _ (equal_same _ (column a 1) (column b 1) (ap (λ k. column k 0) same)
    (ap (λ k. is_null (column k 0)) it.3))
    (and_from _ _ (equal_same _ (column a 2) (column b 2) (ap (λ k. column k 1) same)
    (ap (λ k. is_null (column k 1)) it.3))
    (and_from _ _ (equal_same _ (column a 3) (column b 3) (ap (λ k. column k 2) same)
    (ap (λ k. is_null (column k 2)) it.3)) refl))

same_int : (m n : ℤ) → equal Binary (Int m) (Int n) ≡ true → Int m ≡ Int n
same_int m n h = ap Int (exact_signed m n (sym (value_cmp-Int m n)
    ∙ tied_is _ (sym (equal_is Binary (Int m) (Int n) refl refl) ∙ h)))

same_text : (s t : List ℕ) → equal Binary (Text s) (Text t) ≡ true → Text s ≡ Text t
same_text s t h = ap Text (exact_bytes s t (sym (value_cmp-Text s t)
    ∙ tied_is _ (sym (equal_is Binary (Text s) (Text t) refl refl) ∙ h)))

equal_at : (a b c d : Value) → a ≡ c → b ≡ d → equal Binary a b ≡ true → equal Binary c d ≡ true
equal_at a b c d p q h = rw (← p, ← q) h

-- and rows that agree on it have one key
pub agree_key : (a b : Row) → IsSome (row_said (values_of a)) → IsSome (row_said (values_of b))
    → agree plain places a places b ≡ true → key (values_of a) ≡ key (values_of b)
agree_key a b says also h =
    let p = key_said a says in
    let q = key_said b also in
    let bare = rw first_key-plain at h in
    let parts = and_parts _ _ bare in
    let more = and_parts _ _ parts.1 in
    let last = and_parts _ _ more.1 in
    let one : Int p.0 ≡ Int q.0 = same_int p.0 q.0 (equal_at _ _ _ _ (ap (λ k. column k 0) p.3)
    (ap (λ k. column k 0) q.3) parts.0) in
    let two : Int p.1 ≡ Int q.1 = same_int p.1 q.1 (equal_at _ _ _ _ (ap (λ k. column k 1) p.3)
    (ap (λ k. column k 1) q.3) more.0) in
    let three : Text p.2 ≡ Text q.2 = same_text p.2 q.2 (equal_at _ _ _ _ (ap (λ k. column k 2) p.3)
    (ap (λ k. column k 2) q.3) last.0) in
    p.3 ∙ rw (one, two, three) refl ∙ sym q.3

module _ (db : Database) (holds : HoldsTable db) (says : AllSay (shown_in db.trees)) where
  rows : List Row
  rows = db.trees 0

  sound : IsSound kept_schema db.trees
  sound = subst (λ s. IsSound s db.trees) holds.schema holds.sound

  pub says_at : (r : Row) → Has (db.trees 0) r → IsSome (row_said (values_of r))
  says_at r h = all_has (λ r. IsSome (row_said (values_of r))) (db.trees 0) r
      (all_from_map (λ values. IsSome (row_said values)) values_of (db.trees 0) says) h

  pub keyed_at : (r : Row) → Has (db.trees 0) r → IsTrue (is_int (rowid r))
  keyed_at r h = all_has (λ r. IsTrue (is_int (rowid r))) (db.trees 0) r holds.rising.1 h

  each : (x y : Row) → Has (db.trees 0) x → Has (db.trees 0) y → value_cmp (rowid x) (rowid y) ≡ Less
      → Apart (values_of x) (values_of y)
  each x y hx hy below same =
      let unique = keys_are_unique kept_schema db.trees kept 0 places y sound (inl refl) refl hy in
      let clash = and_from _ _ (agree_same plain x y same (says_at y hy))
      (differ_below (rowid x) (rowid y) (not_null _ (keyed_at x hx)) (not_null _ (keyed_at y hy)) below) in
      true≢false (sym (some_from (λ other. agree plain places other places y && differ (rowid other) (rowid y))
      (db.trees 0) x hx clash) ∙ unique)

  apart_in : (part : List Row) → ((r : Row) → Has part r → Has (db.trees 0) r) → IsTable part
      → IsAscending (λ a b. Apart (values_of a) (values_of b)) part
  apart_in [] within up = tt
  apart_in (x ∷ part) within up = (
    all_from _ part (λ y h. each x y (within x (inl refl)) (within y (inr h))
        (all_has (λ y. value_cmp (rowid x) (rowid y) ≡ Less) part y up.0 h)),
    apart_in part (λ r h. within r (inr h)) up.1,
  )

  -- the rows of the table have keys of their own
  pub rows_apart : AreApart (shown_in db.trees)
  rows_apart = ascending-map Apart values_of (db.trees 0) (apart_in (db.trees 0) (λ r h. h) holds.rising.0)
