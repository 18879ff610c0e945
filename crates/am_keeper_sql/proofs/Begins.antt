-- What a connection shows once the table is there.
use Rattle.std.specs.Prelude.{IsSome}
use Rattle.std.proofs.Common.{◌≡◌, ◌⊎◌, inl, inr, [], ◌∷◌, Some, None, IsTrue, refl, sym, ap, subst, ◌∙◌}
use Rattle.std.proofs.lemmas.Option.{same_Some, none-some}
use Rattle.sqlite_disk.specs.Disk.{MoreFaults}
use Rattle.sqlite.specs.Schema.{Schema}
use Rattle.sqlite.specs.Effect.{Database}
use Rattle.sqlite.specs.State.{State, HasCleanDisk}
use Rattle.am_keeper.specs.declared.rows.Rows.{Rows}
use Rattle.am_keeper.specs.Rows.{no_rows}
use Rattle.am_keeper_sql.specs.Table.{kept, kept_schema, no_schema}
use Rattle.am_keeper_sql.specs.Told.{told_in}
use Rattle.am_keeper_sql.specs.Honest.{IsHonest, HoldsTable, Keeps, StaysSeen}
use Rattle.am_keeper_sql.specs.Image.{HasRows}
use Rattle.am_keeper_sql.specs.Failing.{Lasts, Begins, FailsToTell}
use Rattle.am_keeper_sql.proofs.Attaches.{told_none}
use Rattle.am_keeper_sql.proofs.Failures.{more_then, then_more}

-- the two schemas differ
pub one_table : (schema : Schema) → schema ≡ kept_schema → schema ≡ no_schema → ⊥
one_table schema has none = let e : kept ∷ [] ≡ [] = ap (λ (s : Schema). s.tables) (sym has)
    ∙ ap (λ (s : Schema). s.tables) none in absurd cc

module _ (old mid : State) (begun : Begins old mid) where
  pub has_rows : (rows : Rows) → told_in mid.now.trees ≡ Some rows → HasRows old.now rows
  has_rows rows told = elim begun [
    | inl there ↦ inl (there.0, ap (λ (d : Database). told_in d.trees) (sym there.1) ∙ told)
    | inr made ↦ inr (made.0, same_Some _ _ (sym told ∙ told_none mid.now.trees made.1))
  ]

  pub has_none : told_in mid.now.trees ≡ None → (rows : Rows) → HasRows old.now rows → ⊥
  has_none untold rows (inl (has, told)) = elim begun [
    | inl there ↦ none-some rows (sym untold ∙ ap (λ (d : Database). told_in d.trees) there.1 ∙ told)
    | inr made ↦ one_table old.now.schema has made.0
  ]
  has_none untold rows (inr (has, none)) = elim begun [
    | inl there ↦ one_table old.now.schema there.0 has
    | inr made ↦ none-some no_rows (sym untold ∙ told_none mid.now.trees made.1)
  ]

-- what a selection told of a connection that it left as it was
module _ (mid new : State) (rows : Rows) (holds : HoldsTable mid.now) (told : told_in mid.now.trees ≡ Some rows)
    (seen : StaysSeen mid new) where
  pub told_then : told_in new.now.trees ≡ Some rows
  told_then = ap (λ (d : Database). told_in d.trees) seen.same ∙ told

  pub keeps_then : Keeps new
  keeps_then = record {
    settled = seen.settled;
    holds = subst HoldsTable (sym seen.same) holds;
    read = subst IsSome
        (sym told_then) refl;
  }

-- why a connection that was just opened couldn't begin
pub fails_late : (old mid new : State) → Lasts old mid → Lasts mid new → (IsHonest mid → Begins old mid)
    → (IsTrue mid.is_open → FailsToTell mid new) → HasCleanDisk mid → IsTrue old.is_open
    → MoreFaults old.faults new.faults ⊎ ((rows : Rows) → HasRows old.now rows → ⊥)
fails_late old mid new p q begun fails clean live = elim (p.closes clean live) [
  | inl open' ↦ elim (fails open') [
    | inl more ↦ inl (then_more old.faults mid.faults new.faults p.counts more)
    | inr untold ↦ inr (has_none old mid (begun (record { clean = clean; live = open' })) untold)
  ]
  | inr more ↦ inl (more_then old.faults mid.faults new.faults more q.counts)
]
