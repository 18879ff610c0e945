-- Which rows the update of the upsert finds.
use Rattle.std.proofs.Common.{◌≡◌, inl, inr, List, [], ◌∷◌, map, filter, refl, sym, ap, subst, ◌∙◌}
use Rattle.std.specs.Prelude.{if◌then◌else◌}
use Rattle.std.specs.List.{flat_map}
use Rattle.std.specs.List.Sorted.{IsPermutation}
use Rattle.std.proofs.lemmas.Bool.{cases_Bool}
use Rattle.std.proofs.lemmas.List.Sorted.{IsPermutation-map}
use Rattle.sqlite.specs.declared.types.Value.TheVariants.{Null}
use Rattle.sqlite.specs.Order.{Row}
use Rattle.sqlite.specs.Tree.{Trees}
use Rattle.sqlite.specs.Query.{IsAnswer, output, Output}
use Rattle.sqlite.specs.Program.{overlay}
use Rattle.sqlite.specs.Effect.{Answers}
use Rattle.am_keeper_sql.specs.Table.{kept_schema}
use Rattle.am_keeper_sql.proofs.Texts.{update_query, is_met, updated}

each_met : (given : Row) (rows : List Row) → flat_map (λ r. if is_met given r then (given ∷ r ∷ []) ∷ [] else []) rows
    ≡ map (λ r. given ∷ r ∷ []) (filter (is_met given) rows)
each_met given [] = refl
each_met given (r ∷ rows) = elim (cases_Bool (is_met given r)) [
  | inl met ↦ rw met (ap (λ more. (given ∷ r ∷ []) ∷ more) (each_met given rows))
  | inr other ↦ rw other (each_met given rows)
]

each_updated : (given : Row) (rows : List Row) → map (λ (o : Output). o.1)
    (map (output update_query) (map (λ r. given ∷ r ∷ []) rows)) ≡ map (updated given) rows
each_updated given [] = refl
each_updated given (r ∷ rows) = ap (λ more. updated given r ∷ more) (each_updated given rows)

-- the rows that the update shows are those that it met, in some order
pub found_are : (db : Trees) (given : Row) (rows : List Row) → Answers (record { schema = kept_schema; trees = db })
    (record { lets = []; body = update_query }) given rows
    → IsPermutation (map (updated given) (filter (is_met given) (db 0))) rows
found_are db given rows got =
    let a : IsAnswer update_query (overlay db []) given rows = got.answer Null in
    let met = filter (is_met given) (db 0) in
    let staged : a.staged ≡ map (λ r. given ∷ r ∷ []) met = a.grouped ∙ each_met given (db 0) in
    let kept_is : a.kept ≡ map (output update_query) (map (λ r. given ∷ r ∷ []) met) = a.distinct
    ∙ ap (map (output update_query)) staged in
    let shown : IsPermutation (map (λ (o : Output). o.1) a.kept) (map (λ (o : Output). o.1) a.ordered) =
    IsPermutation-map (λ (o : Output). o.1) a.kept a.ordered a.same in
    let first : map (λ (o : Output). o.1) a.kept ≡ map (updated given) met = ap (map (λ (o : Output). o.1)) kept_is
    ∙ each_updated given met in
    subst (IsPermutation (map (updated given) met)) (sym a.shown) (subst
    (λ xs. IsPermutation xs (map (λ (o : Output). o.1) a.ordered)) first shown)
