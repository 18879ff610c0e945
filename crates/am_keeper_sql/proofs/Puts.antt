-- What a put makes of the rows that a table tells.
use Rattle.std.proofs.Common.{◌≡◌, inl, inr, ℕ, ℤ, List, [], ◌∷◌, ◌++◌, map, filter, Bool, true, false, ◌&&◌, ◌||◌, cond, Some, Result, Ok, Err, OnOk, drop, refl, sym, ap, ◌∙◌, subst}
use Rattle.std.specs.Prelude.{IsSome}
use Rattle.std.specs.List.{AllByRecursion}
use Rattle.std.specs.List.Sorted.{IsPermutation}
use Rattle.std.proofs.lemmas.List.Sorted.{IsPermutation-sym, IsPermutation-map}
use Rattle.std.proofs.lemmas.Bool.{or_left, and_parts, not-true}
use Rattle.sqlite.specs.declared.types.Value.{Value}
use Rattle.sqlite.specs.declared.types.Value.TheVariants.{Null, Int}
use Rattle.sqlite.specs.Effect.{Database}
use Rattle.sqlite.specs.Order.{Row, column}
use Rattle.sqlite.specs.Ops.{unary}
use Rattle.sqlite.specs.Cast.{cast, cast_all, cast_row}
use Rattle.sqlite.specs.Kind.TheVariants.{Integer}
use Rattle.sqlite.specs.Rows.{shown}
use Rattle.sqlite.specs.Tree.{Trees, rowid, put_row, without_rowid}
use Rattle.sqlite.specs.Edit.{edit_of, edited}
use Rattle.sqlite.proofs.Callers.{one_permutation}
use Rattle.sqlite_value.specs.Keys.{plain}
use Rattle.sqlite_trees.specs.View.{IsShaped}
use Rattle.sqlite_trees.specs.declared.store.Shape.TheVariants as shape
use Rattle.sqlite_trees.proofs.ListLemmas.{all-map, all-filter, all_from_map}
use Rattle.sqlite_trees.proofs.TreeLemmas.{all-put_row, IsShaped-put_row, IsShaped-filter}
use Rattle.sqlite_schema.specs.Rules.{agree, equal}
use Rattle.sqlite.specs.Collation.TheVariants.{Binary}
use Rattle.sqlite.specs.declared.error.Error.{Error}
use Rattle.sqlite.specs.State.{State, Executes}
use Rattle.sqlite_rules.specs.declared.error.Rowids.TheVariants.{Chosen, Given}
use Rattle.sqlite_rules.specs.Lists.{Has}
use Rattle.sqlite_rules.specs.Keys.{AreConflicts, conflicts}
use Rattle.sqlite_rules.specs.Edit.{is_taken, are_fresh, left_by, next_rowid, id_in, with_rowid}
use Rattle.sqlite_rules.specs.Calls.{ids_of}
use Rattle.sqlite_rules.proofs.ListLemmas.{all_from}
use Rattle.sqlite_rules.proofs.TableLemmas.{int_is}
use Rattle.am_keeper.specs.declared.rows.Row.{Row as Kept}
use Rattle.am_keeper.specs.declared.rows.Row.TheVariants.{Package, Grant, Link}
use Rattle.am_keeper.specs.Rows.{no_rows, with_row}
use Rattle.am_keeper_sql.specs.Table.{kept, kept_schema, upsert_text, values_of}
use Rattle.am_keeper_sql.specs.Told.{values_for, row_said, shown_in}
use Rattle.am_keeper_sql.proofs.Said.{AllSay, with_said, said_from, said_in, told_said, all_told}
use Rattle.am_keeper_sql.specs.Honest.{HoldsTable, Keeps, told_by}
use Rattle.am_keeper_sql.proofs.Rows.{key, key_of, key-said, key-values_for, values_for-said, with_row-tied}
use Rattle.am_keeper_sql.proofs.Permuted.{Apart, AreApart, said_from-first, said_from-permuted, still_apart}
use Rattle.am_keeper_sql.proofs.Places.{placed, taken_out, one_met}
use Rattle.am_keeper_sql.proofs.Keys.{places, some_is, agree_same, agree_key, says_at, keyed_at, rows_apart}
use Rattle.am_keeper_sql.proofs.Texts.{updated, is_met}
use Rattle.am_keeper_sql.proofs.Upserts.{put_row_for, Adds, Replaces, IsUpserted, one_upsert}

either : (b : Bool) (x : Value) → cond b x x ≡ x
either true x = refl
either false x = refl

cast_null : cast Integer Null ≡ Null
unfolding unary
cast_null = either _ Null

cast_int : (n : ℤ) → cast Integer (Int n) ≡ Int n
unfolding unary
cast_int n = either _ (Int n)

-- the columns take the values of a kept row as they are
stable : (row : Kept) → cast_all kept.columns (values_for row) ≡ values_for row
stable (Package row) = rw (cast_int, cast_int, cast_int)
stable (Grant row) = rw (cast_int, cast_int, cast_int)
stable (Link row) = rw (cast_int, cast_int, cast_int)

values_of-given : (n : Value) (row : Kept) → values_of (n ∷ values_for row) ≡ values_for row
values_of-given n (Package row) = refl
values_of-given n (Grant row) = refl
values_of-given n (Link row) = refl

-- two rows conflict where they agree on the key
conflict_from : (new r : Row) → agree plain places r places new ≡ true
    → conflicts (Some places) kept_schema.indexes kept new r ≡ true
conflict_from new r h = or_left _ false h

conflict_agrees : (new r : Row) → conflicts (Some places) kept_schema.indexes kept new r ≡ true
    → agree plain places r places new ≡ true
conflict_agrees new r h = only _ h
  where
    only : (b : Bool) → (b || false) ≡ true → b ≡ true
    only true h = refl
    only false h = h

module _ (db : Database) (holds : HoldsTable db) (says : AllSay (shown_in db.trees)) (row : Kept)
    (said : row_said (values_for row) ≡ Some row) where
  abbrev given : Row
  given = values_for row

  -- these are the rows of the table with the row put
  pub record IsPut (after : List Row) : Type 0 where
    pub told : said_from no_rows (map values_of after) ≡ with_row (said_in db.trees) row
    pub rising : IsShaped shape.Table after
    pub all_say : AllSay (map values_of after)

  new_says : (n : ℤ) → IsSome (row_said (values_of (Int n ∷ given)))
  new_says n = subst (λ values. IsSome (row_said values)) (sym (values_of-given (Int n) row))
      (subst IsSome (sym said) refl)

  -- told with a row of a key of its own before the others
  told_before : (others : List Row) → AllByRecursion (Apart given) others → said_from no_rows (given ∷ others)
      ≡ with_row (said_from no_rows others) row
  told_before others apart = said_from-first no_rows given others apart ∙ ap (with_said (said_from no_rows others)) said

  shown_with : (n : ℤ) (others after : List Row) → IsPermutation ((Int n ∷ given) ∷ others) after
      → IsPermutation (given ∷ map values_of others) (map values_of after)
  shown_with n others after same = subst (λ v. IsPermutation (v ∷ map values_of others) (map values_of after))
      (values_of-given (Int n) row) (IsPermutation-map values_of _ _ same)

  -- the row goes beside others, none of which has its key
  put_beside : (n : ℤ) (others : List Row) → IsShaped shape.Table others → AllSay (map values_of others)
      → AllByRecursion (Apart given) (map values_of others) → AreApart (map values_of others)
      → is_taken others (Int n ∷ given) ≡ false
      → (said_from no_rows (map values_of (put_row (Int n ∷ given) others))
      ≡ with_row (said_from no_rows (map values_of others)) row)
      × IsShaped shape.Table (put_row (Int n ∷ given) others) × AllSay (map values_of (put_row (Int n ∷ given) others))
  put_beside n others rising all apart among free =
      let same = shown_with n others _ (placed (Int n ∷ given) others free) in (
        sym (said_from-permuted _ _ same (apart, among) no_rows) ∙ told_before (map values_of others) apart,
        IsShaped-put_row (Int n ∷ given) others refl rising,
        all-map (λ values. IsSome (row_said values)) values_of _ (all-put_row (λ r. IsSome (row_said (values_of r)))
            (Int n ∷ given) others (new_says n) (all_from_map (λ values. IsSome (row_said values)) values_of others
            all)),
      )

  -- the row is added, since no other has its key
  pub added : (n : ℤ) (after : List Row) → AreConflicts (Some places) kept_schema.indexes kept (db.trees 0)
      (Int n ∷ given) [] → is_taken (db.trees 0) (Int n ∷ given) ≡ false
      → after ≡ put_row (Int n ∷ given) (db.trees 0) → IsPut after
  added n after none free is =
      let apart : AllByRecursion (Apart given) (shown_in db.trees) = all-map (Apart given) values_of (db.trees 0)
      (all_from _ (db.trees 0) (λ r h same.
      none.complete r h (conflict_from (Int n ∷ given) r (agree_same plain r (Int n ∷ given)
      (sym same ∙ ap key (sym (values_of-given (Int n) row))) (new_says n))))) in
      let it = put_beside n (db.trees 0) holds.rising says apart (rows_apart db holds says) free in
      subst IsPut (sym is) (record { told = it.0; rising = it.1; all_say = it.2 })

  -- the row takes the place of the one with its key
  pub replaced : (n : ℤ) (r : Row) (after : List Row) → Has (db.trees 0) r → rowid r ≡ Int n → key (values_of r)
      ≡ key given → is_taken (without_rowid n (db.trees 0)) (Int n ∷ given) ≡ false
      → after ≡ put_row (Int n ∷ given) (without_rowid n (db.trees 0)) → IsPut after
  replaced n r after here id same free is =
      let others = without_rowid n (db.trees 0) in
      let old = some_is _ (says_at db holds says r here) in
      let moved : IsPermutation (shown_in db.trees) (values_of r ∷ map values_of others) = IsPermutation-sym _ _
      (IsPermutation-map values_of _ _ (taken_out n r id (db.trees 0) holds.rising.0 here)) in
      let among = still_apart _ _ moved (rows_apart db holds says) in
      let apart : AllByRecursion (Apart given) (map values_of others) = subst
      (λ k. AllByRecursion (λ y. k ≡ key y → ⊥) (map values_of others)) same among.0 in
      let all = all-map (λ values. IsSome (row_said values)) values_of others
      (all-filter _ _ (db.trees 0) (all_from_map (λ values. IsSome (row_said values)) values_of (db.trees 0) says))
      in
      let it = put_beside n others (IsShaped-filter shape.Table _ (db.trees 0) holds.rising) all apart among.1 free in
      let was : said_in db.trees ≡ with_row (said_from no_rows (map values_of others)) old.0 =
      said_from-permuted _ _ moved (rows_apart db holds says) no_rows
      ∙ said_from-first no_rows (values_of r) (map values_of others) among.0
      ∙ ap (with_said (said_from no_rows (map values_of others))) old.1 in
      let keys : key_of old.0 ≡ key_of row = sym (key-said (values_of r) old.0 old.1) ∙ same ∙ key-values_for row in
      let tied = sym (with_row-tied (said_from no_rows (map values_of others)) old.0 row keys) in
      subst IsPut (sym is) (record {
        told = it.0 ∙ tied ∙ ap (λ rows. with_row rows row) (sym was);
        rising = it.1;
        all_say = it.2;
      })

module _ (db : Database) (holds : HoldsTable db) (says : AllSay (shown_in db.trees)) (row : Kept)
    (said : row_said (values_for row) ≡ Some row)
    (v0 v1 v2 v3 v4 v5 v6 : Value) (is : values_for row ≡ v0 ∷ v1 ∷ v2 ∷ v3 ∷ v4 ∷ v5 ∷ v6 ∷ []) where
  abbrev seven : Row
  seven = v0 ∷ v1 ∷ v2 ∷ v3 ∷ v4 ∷ v5 ∷ v6 ∷ []

  rowed : (v : Value) → cast Integer v ≡ v → cast_row kept (v ∷ seven) ≡ v ∷ seven
  rowed v same = ap (λ x. x ∷ cast_all kept.columns seven) same ∙ ap (λ xs. v ∷ xs)
      (subst (λ xs. cast_all kept.columns xs ≡ xs) is (stable row))

  as_given : (n : ℤ) → cast_row kept (Int n ∷ seven) ≡ Int n ∷ values_for row
  as_given n = rowed (Int n) (cast_int n) ∙ ap (λ xs. Int n ∷ xs) (sym is)

  new_is : put_row_for (db.trees 0) seven ≡ Int (next_rowid (db.trees 0)) ∷ seven
  new_is = ap (with_rowid Chosen (db.trees 0)) (rowed Null cast_null)

  adds : (n : ℤ) (after : Trees) → Adds db.trees (Int n ∷ seven) after → IsPut db holds says row said (after 0)
  adds n after (none, free, left) =
      added db holds says row said n (after 0) (subst (λ xs. AreConflicts (Some places) kept_schema.indexes kept
      (db.trees 0) (Int n ∷ xs) []) (sym is) none)
      (subst (λ x. is_taken (db.trees 0) x ≡ false) (as_given n) free)
      (left ∙ ap (λ x. put_row x (db.trees 0)) (as_given n))

  four : (a b c d w x y z : Value) (tail : Row) → a ≡ w → b ≡ x → c ≡ y → d ≡ z → a ∷ b ∷ c ∷ d ∷ tail ≡ w ∷ x ∷ y ∷ z
      ∷ tail
  four a b c d w x y z tail p q r s = cc

  replaces : (m : ℤ) (after : Trees) → Replaces seven db.trees (Int m ∷ seven) after
      → IsPut db holds says row said (after 0)
  replaces m after (there, more, some, rows, found, fresh, left) =
      let new = Int m ∷ seven in
      let conflict = some.sound there (inl refl) in
      let r = conflict.0 in
      let n = id_in (rowid r) in
      let id : rowid r ≡ Int n = int_is (rowid r) (keyed_at db holds says r conflict.1) in
      let as_row : new ≡ Int m ∷ values_for row = ap (λ xs. Int m ∷ xs) (sym is) in
      let agreed = conflict_agrees (Int m ∷ values_for row) r (subst
      (λ x. conflicts (Some places) kept_schema.indexes kept x r ≡ true) as_row conflict.2) in
      let same : key (values_of r) ≡ key (values_for row) = agree_key r (Int m ∷ values_for row)
      (says_at db holds says r conflict.1) (new_says db holds says row said m) agreed
      ∙ ap key (values_of-given (Int m) row) in
      let keys : key (values_of r) ≡ v0 ∷ v1 ∷ v2 ∷ [] = same ∙ ap key is in
      let there_is : rowid there ≡ Int n = ap rowid conflict.3 ∙ id in
      let read = seven ++ rowid there ∷ shown kept new in
      let met : filter (is_met read) (db.trees 0) ≡ r ∷ [] =
      subst (λ v. filter (λ y. equal Binary (rowid y) v && true) (db.trees 0) ≡ r ∷ []) (sym there_is)
      (one_met n r (db.trees 0) id holds.rising.0 holds.rising.1 conflict.1) in
      let u = updated read r in
      let rows_is : rows ≡ u ∷ [] = one_permutation u rows (subst (λ l. IsPermutation (map (updated read) l) rows) met
      found) in
      let changed : drop 1 u ≡ Int n ∷ seven =
      four (column r 0) (column r 1) (column r 2) (column r 3) (Int n) v0 v1 v2 (v3 ∷ v4 ∷ v5 ∷ v6 ∷ []) id
      (ap (λ k. column k 0) keys) (ap (λ k. column k 1) keys) (ap (λ k. column k 2) keys) in
      let casted : cast_row kept (drop 1 u) ≡ Int n ∷ values_for row = ap (cast_row kept) changed ∙ as_given n in
      let free : is_taken (without_rowid n (db.trees 0)) (cast_row kept (drop 1 u)) ≡ false =
      not-true _ (and_parts _ _ (subst (λ rows. are_fresh (left_by db.trees
      (edit_of db.trees kept (ids_of rows) Given 1 rows)) (edit_of db.trees kept (ids_of rows) Given 1 rows).news
      ≡ true) rows_is fresh)).0 in
      let after_is : after 0 ≡ put_row (cast_row kept (drop 1 u)) (without_rowid n (db.trees 0)) = left
      ∙ ap (λ rows. edited db.trees (edit_of db.trees kept (ids_of rows) Given 1 rows)) rows_is in
      replaced db holds says row said n r (after 0) conflict.1 id same
      (subst (λ x. is_taken (without_rowid n (db.trees 0)) x ≡ false) casted free)
      (after_is ∙ ap (λ x. put_row x (without_rowid n (db.trees 0))) casted)

  pub put_is : (after : Trees) → IsUpserted seven db.trees after → IsPut db holds says row said (after 0)
  put_is after (inl h) = adds (next_rowid (db.trees 0)) after (subst (λ x. Adds db.trees x after) new_is h)
  put_is after (inr h) = replaces (next_rowid (db.trees 0)) after (subst (λ x. Replaces seven db.trees x after) new_is
      h)

-- the seven values of a kept row
spelled : (row : Kept) → (v0 : Value) × (v1 : Value) × (v2 : Value) × (v3 : Value) × (v4 : Value) × (v5 : Value)
    × (v6 : Value) × (values_for row ≡ v0 ∷ v1 ∷ v2 ∷ v3 ∷ v4 ∷ v5 ∷ v6 ∷ [])
spelled (Package row) = (_, _, _, _, _, _, _, refl)
spelled (Grant row) = (_, _, _, _, _, _, _, refl)
spelled (Link row) = (_, _, _, _, _, _, _, refl)

-- an upsert of the values of a kept row puts it
pub upserted : (values : Row) (row : Kept) → row_said values ≡ Some row → (old new : State) (r : Result ℕ Error)
    → Keeps old → Executes upsert_text values old new r
    → OnOk r (Keeps new × (told_by new ≡ with_row (told_by old) row))
upserted values row says old new (Err e) keeps h = tt
upserted values row says old new (Ok count) keeps h =
    let s = spelled row in
    let same = values_for-said values row says in
    let said = ap row_said (sym same) ∙ says in
    let it = one_upsert s.0 s.1 s.2 s.3 s.4 s.5 s.6 old new count keeps.holds.schema keeps.settled
    (subst (λ xs. Executes upsert_text xs old new (Ok count)) (same ∙ s.7) h) in
    let all = all_told no_rows (shown_in old.now.trees) keeps.read in
    let put = put_is old.now keeps.holds all row said s.0 s.1 s.2 s.3 s.4 s.5 s.6 s.7 new.now.trees it.3 in
    let was = told_said old.now.trees all in
    let now = told_said new.now.trees put.all_say in (
      record {
        settled = it.0;
        holds = record { schema = it.1; sound = it.2; rising = put.rising };
        read = subst IsSome
            (sym now) refl;
      },
      rw (was, now) put.told,
    )
