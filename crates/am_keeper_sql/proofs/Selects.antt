-- What the selection shows of the rows of the table.
use Rattle.std.proofs.Common.{◌≡◌, List, [], ◌∷◌, map, Some, refl, sym, ap, subst, ◌∙◌}
use Rattle.std.specs.List.{flat_map}
use Rattle.std.specs.List.Sorted.{IsPermutation}
use Rattle.std.proofs.lemmas.List.Sorted.{IsPermutation-map, IsPermutation-sym}
use Rattle.sqlite.specs.declared.types.Value.TheVariants.{Null}
use Rattle.sqlite.specs.Order.{Row}
use Rattle.sqlite.specs.Query.{IsAnswer, output, Output}
use Rattle.sqlite.specs.Program.{overlay}
use Rattle.sqlite.specs.Effect.{Database}
use Rattle.sqlite.specs.State.{State, Shown}
use Rattle.am_keeper_sql.specs.Honest.{HoldsTable}
use Rattle.am_keeper_sql.specs.Told.{shown_in, told_in}
use Rattle.am_keeper_sql.proofs.Said.{AllSay, said_from, told_said}
use Rattle.am_keeper.specs.Rows.{no_rows}
use Rattle.am_keeper_sql.proofs.Permuted.{said_from-permuted}
use Rattle.am_keeper_sql.proofs.Keys.{rows_apart}
use Rattle.sqlite_trees.proofs.ListLemmas.{all-permutation}
use Rattle.sqlite.proofs.Callers.{reads_as}
use Rattle.am_keeper_sql.specs.Table.{kept_schema, values_of}
use Rattle.am_keeper_sql.proofs.Texts.{select_text, select_is, select_plain, select_query}

-- the one slot of the selection, at each row
each_row : (params : Row) (rows : List Row) → flat_map (λ r. (params ∷ r ∷ []) ∷ []) rows
    ≡ map (λ r. params ∷ r ∷ []) rows
each_row params [] = refl
each_row params (r ∷ rows) = ap (λ more. (params ∷ r ∷ []) ∷ more) (each_row params rows)

values_shown : (rows : List Row) → map (λ (o : Output). o.1) (map (output select_query) (map (λ r. [] ∷ r ∷ []) rows))
    ≡ map values_of rows
values_shown [] = refl
values_shown (r ∷ rows) = ap (λ more. values_of r ∷ more) (values_shown rows)

-- the rows that are shown are those of the table, in some order
pub selects : (old new : State) (rows : List Row) → old.now.schema ≡ kept_schema → Shown select_text [] old new rows
    → IsPermutation (map values_of (old.now.trees 0)) rows
selects old new rows has h =
    let got = reads_as select_text [] old new kept_schema has _ select_is.0 select_plain select_is.1 rows h in
    let a : IsAnswer select_query (overlay old.now.trees []) [] rows = got.answer Null in
    let staged : a.staged ≡ map (λ r. [] ∷ r ∷ []) (old.now.trees 0) = a.grouped ∙ each_row [] (old.now.trees 0) in
    let kept_is : a.kept ≡ map (output select_query) (map (λ r. [] ∷ r ∷ []) (old.now.trees 0)) = a.distinct
    ∙ ap (map (output select_query)) staged in
    let shown : IsPermutation (map (λ (o : Output). o.1) a.kept) (map (λ (o : Output). o.1) a.ordered) =
    IsPermutation-map (λ (o : Output). o.1) a.kept a.ordered a.same in
    let first : map (λ (o : Output). o.1) a.kept ≡ map values_of (old.now.trees 0) = ap (map (λ (o : Output). o.1))
    kept_is ∙ values_shown (old.now.trees 0) in
    subst (IsPermutation (map values_of (old.now.trees 0))) (sym a.shown)
    (subst (λ xs. IsPermutation xs (map (λ (o : Output). o.1) a.ordered)) first shown)

-- what is read of the rows that the selection shows is what the table tells
pub told_shown : (db : Database) → HoldsTable db → (found : List Row) → IsPermutation (shown_in db.trees) found
    → AllSay found
    → told_in db.trees ≡ Some (said_from no_rows found)
told_shown db holds found same says =
    let all = all-permutation _ found (shown_in db.trees) (IsPermutation-sym _ _ same) says in
    told_said db.trees all ∙ ap Some (said_from-permuted (shown_in db.trees) found same (rows_apart db holds all)
    no_rows)
