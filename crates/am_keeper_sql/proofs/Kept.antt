-- What the calls of a keeper make of the rows that it tells.
use Rattle.std.proofs.Common.{◌≡◌, Some, Result, Ok, Err, OnOk, OnErr, IfOk, sym, ap, subst, ◌∙◌}
use Rattle.std.proofs.Math.Logic.{∥∥₁_elim, ∥∥₁_map}
use Rattle.std.specs.Prelude.{IsSome, unwrap_or}
use Rattle.std.specs.Coded.{Coded-set, coded_option}
use Rattle.sqlite.specs.Effect.{Database}
use Rattle.sqlite.specs.State.{State}
use Rattle.am_keeper.specs.declared.failure.KeepFail.{KeepFail}
use Rattle.am_keeper.specs.declared.rows.Row.{Row as Kept}
use Rattle.am_keeper.specs.declared.rows.Rows.{Rows}
use Rattle.am_keeper.specs.contracts.rows.Rows as rows_of
use Rattle.am_keeper.specs.Rows.{no_rows, with_row}
use Rattle.am_keeper.specs.Keeping.{Puts}
use Rattle.am_keeper_sql.specs.Told.{told_in}
use Rattle.am_keeper_sql.specs.Honest.{IsHonest, IsSettled, HoldsTable, Keeps, PutsInto, FailsUnseen, StaysSeen, told_by}

-- what a keeper holds true of its database
abbrev pub HonestKeeps : State → Type 0
HonestKeeps s = ∥ (IsHonest s → Keeps s) ∥₁

pub keeps_seen : (old new : State) → Keeps old → StaysSeen old new → Keeps new
keeps_seen old new k h = record {
  settled = h.settled;
  holds = subst HoldsTable (sym h.same) k.holds;
  read = subst
      (λ (db : Database). IsSome (told_in db.trees)) (sym h.same) k.read;
}

told_seen : (old new : State) → StaysSeen old new → told_by new ≡ told_by old
told_seen old new h = ap (λ (db : Database). unwrap_or (told_in db.trees) no_rows) h.same

-- two equal rows are so in one way, so what is kept may be used to show it
rows_by : {old : State} (a b : Rows) → HonestKeeps old → IsHonest old → (Keeps old → a ≡ b) → a ≡ b
rows_by a b keeps honest by = ∥∥₁_elim keeps (Coded-set rows_of.the_row.coded a b) (λ k. by (k honest))

module _ {X : Type 0} (old new : State) (row : Kept) (was : IsHonest new → IsHonest old) (keeps : HonestKeeps old) where
  module _ (r : Result X KeepFail) (put : PutsInto old new row r) (failed : FailsUnseen old new r) where
    pub put_keeps : HonestKeeps new
    put_keeps = ∥∥₁_map keeps (λ k honest. by r (k (was honest)) (put honest (k (was honest)))
        (failed honest (k (was honest)).settled))
      where
        by : (r : Result X KeepFail) → Keeps old → OnOk r (Keeps new × (told_by new ≡ with_row (told_by old) row))
            → OnErr r (StaysSeen old new) → Keeps new
        by (Ok done) k done' seen = done'.0
        by (Err e) k done' seen = keeps_seen old new k seen

  pub put_rows : (r : Result X KeepFail) → PutsInto old new row r → FailsUnseen old new r → IsHonest new
      → Puts (λ told. with_row told row) (Some (told_by old)) (Some (told_by new)) r
  put_rows (Ok done) put failed honest = ap Some (rows_by (told_by new) (with_row (told_by old) row) keeps (was honest)
      (λ k. (put honest k).1))
  put_rows (Err e) put failed honest = ap Some (rows_by (told_by new) (told_by old) keeps (was honest)
      (λ k. told_seen old new (failed honest k.settled)))

module _ (old new : State) (was : IsHonest new → IsHonest old) (keeps : HonestKeeps old)
    (seen : IsHonest new → IsSettled old → HoldsTable old.now → StaysSeen old new) where
  pub told_keeps : HonestKeeps new
  told_keeps = ∥∥₁_map keeps (λ k honest. let it = k (was honest) in keeps_seen old new it
      (seen honest it.settled it.holds))

  pub told_same : IsHonest new → told_by new ≡ told_by old
  told_same honest = rows_by (told_by new) (told_by old) keeps (was honest)
      (λ k. told_seen old new (seen honest k.settled k.holds))

  pub told_rows : (r : Result Rows KeepFail) → (IsHonest new → HoldsTable old.now
      → IfOk r (λ rows. told_in old.now.trees ≡ Some rows)) → IsHonest new
      → IfOk r (λ rows. told_in new.now.trees ≡ Some rows)
  told_rows (Ok rows) told honest =
      ∥∥₁_elim keeps (Coded-set (coded_option rows_of.the_row.coded) (told_in new.now.trees) (Some rows)) (λ k.
      let it = k (was honest) in ap (λ (db : Database). told_in db.trees) (seen honest it.settled it.holds).same
      ∙ told honest it.holds)
  told_rows (Err e) told honest = tt
