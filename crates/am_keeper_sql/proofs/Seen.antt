-- What a statement leaves to be seen, whatever its outcome.
use Rattle.std.proofs.Common.{◌⊎◌, inl, inr, ℕ, List, false, Option, Some, None, Result, Ok, Err, IsTrue, OnErr, sym, ◌∙◌, subst, arith}
use Rattle.std.proofs.lemmas.Bool.{cases_Bool}
use Rattle.sqlite.specs.Order.{Row}
use Rattle.sqlite.specs.Command.{Command}
use Rattle.sqlite.specs.Command.TheVariants.{Select, Insert, InsertOr, Update, Delete, CreateTable, CreateIndex, DropTable, DropIndex, Begin, Commit, Rollback, Savepoint as Save, Release, RollbackTo, Nothing, CreateView, DropView, Rows}
use Rattle.sqlite_schema.specs.declared.command.Returning.{Returning}
use Rattle.sqlite.specs.Tree.{Trees}
use Rattle.sqlite.specs.declared.error.Error.{Error}
use Rattle.sqlite.specs.State.{State, Survives, Runs, Executes, ExecutesIn, IsNotRun, IsUnchanged, IsRolledBack, Fails, FailsToQuery, FailsToShow, Shown, ShowsRows, shows_rows}
use Rattle.sqlite.specs.Listing.{understood}
use Rattle.sqlite.specs.Given.{IsPlain}
use Rattle.sqlite_resolve.specs.declared.compiled.Compiled.{Compiled}
use Rattle.am_keeper_sql.specs.Honest.{IsHonest, IsSettled, StaysSeen}

-- a connection that is open was open
WasOpen : State → State → Type 0
WasOpen old new = IsTrue new.is_open → IsTrue old.is_open

module _ (old new : State) where
  pub unchanged_seen : IsSettled old → IsUnchanged old new → StaysSeen old new
  unchanged_seen was h = record {
    same = h.0.now_is;
    settled = record
        { settled = h.0.now_is ∙ was.settled ∙ sym h.0.committed_is; autocommit = h.0.mode ∙ was.autocommit };
  }

  rolled_seen : IsTrue new.is_open → IsSettled old → IsRolledBack old new → StaysSeen old new
  rolled_seen live was h = record {
    same = (h.undone live).0 ∙ sym was.settled;
    settled = record
        { settled = (h.undone live).0 ∙ sym (h.undone live).1; autocommit = h.autocommit };
  }

  -- a call of an honest connection began with an honest one
  pub was_honest : (Commits : Trees → Type 0) → Survives old new Commits → (IsTrue new.is_open → IsTrue old.is_open)
      → IsHonest new → IsHonest old
  was_honest Commits survives open' honest = record {
    clean = omega (arith, survives.clean, honest.clean);
    live = open'
        honest.live;
  }

  runs_open : (returning : Option Returning) (command : Command) (text : List ℕ) (given : Row) (count : ℕ)
      → Runs old new returning command text given count → IsTrue new.is_open → IsTrue old.is_open
  runs_open returning (Select q names) text given count h live = absurd h
  runs_open returning (Insert at from) text given count h live = h.shown.was_open
  runs_open returning (InsertOr at how from clauses) text given count h live = h.shown.was_open
  runs_open returning (Update at q) text given count h live = h.shown.was_open
  runs_open returning (Delete at q) text given count h live = h.shown.was_open
  runs_open returning CreateTable text given count h live = h.shown.was_open
  runs_open returning (CreateIndex at) text given count h live = h.shown.was_open
  runs_open returning (DropTable at) text given count h live = h.shown.was_open
  runs_open returning (DropIndex at) text given count h live = h.shown.was_open
  runs_open returning Begin text given count h live = h.1.was_open
  runs_open returning Commit text given count h live = h.1.was_open
  runs_open returning Rollback text given count h live = h.1.was_open live
  runs_open returning (Save name) text given count h live = h.0.0.was_open
  runs_open returning (Release name) text given count h live = elim h.2
      [ inl c ↦ c.1.0.was_open | inr d ↦ d.1.0.was_open ]
  runs_open returning (RollbackTo name) text given count h live = h.2.2.was_open
  runs_open returning (Rows values width names) text given count h live = h.0.0.was_open
  runs_open returning Nothing text given count h live = h.0.0.was_open
  runs_open returning CreateView text given count h live = h.shown.was_open
  runs_open returning (DropView at) text given count h live = h.shown.was_open

  -- a statement that failed left all as it was, or was rolled back
  either_way : {A B : Type 0} {e : Error} {P : Type 0} → (IsUnchanged old new → P) → (IsRolledBack old new → P)
      → (A × IsUnchanged old new) ⊎ Fails old new B e → P
  either_way same back (inl h) = same h.1
  either_way same back (inr h) = back h.3

  failed : (sql : List ℕ) (given : Row) (e : Error) (P : Type 0) → (IsUnchanged old new → P)
      → (IsRolledBack old new → P) → Executes sql given old new (Err e) → P
  unfolding ExecutesIn IsNotRun
  failed sql given e P same back (inl h) = either_way same back h
  failed sql given e P same back (inr run) = elim (cases_Bool (shows_rows false run.0)) [
    | inl shows ↦ same (rw shows at run.2).1
    | inr silent ↦ either_way same back (rw silent at run.2)
  ]

  -- outside a transaction, a statement that is refused changes nothing
  pub refused : (sql : List ℕ) (given : Row) (r : Result ℕ Error) → Executes sql given old new r → IsSettled old
      → IsTrue new.is_open → OnErr r (StaysSeen old new)
  refused sql given (Ok count) h was live = tt
  refused sql given (Err e) h was live = failed sql given e (StaysSeen old new) (unchanged_seen was)
      (rolled_seen live was) h

  pub executes_open : (sql : List ℕ) (given : Row) (r : Result ℕ Error) → Executes sql given old new r
      → IsTrue new.is_open → IsTrue old.is_open
  unfolding ExecutesIn
  executes_open sql given (Err e) h live = failed sql given e (IsTrue old.is_open) (λ same. same.0.was_open)
      (λ back. back.was_open live) h
  executes_open sql given (Ok count) h live = elim (cases_Bool (shows_rows false h.0)) [
    | inl shows ↦ (rw shows at h.2).1.0.was_open
    | inr silent ↦ runs_open h.0.returning h.0.command _ _ count (rw silent at h.2) live
  ]

module _ (sql : List ℕ) (given : Row) (old new : State) where
  shows_open : (c : Compiled) (full : Row) (rows : List Row) (returning : Option Returning)
      → ShowsRows old new sql c full rows returning → IsTrue old.is_open
  shows_open c full rows None h = h.3.0.was_open
  shows_open c full rows (Some what) h = h.1.shown.was_open

  fails_open : (c : Compiled) (full : Row) (e : Error) (returning : Option Returning) → IsTrue new.is_open
      → FailsToShow old new sql c full e returning → IsTrue old.is_open
  fails_open c full e None live h = h.3.0.was_open
  fails_open c full e (Some what) live h = either_way old new (λ same. same.0.was_open) (λ back. back.was_open live) h

  pub shown_open : (rows : List Row) → Shown sql given old new rows → IsTrue old.is_open
  unfolding Shown
  shown_open rows h = shows_open h.0 _ rows h.0.returning h.2

  pub unshown_open : (e : Error) → FailsToQuery sql given old new e → IsTrue new.is_open → IsTrue old.is_open
  unfolding FailsToQuery IsNotRun
  unshown_open e (inl h) live = either_way old new (λ same. same.0.was_open) (λ back. back.was_open live) h
  unshown_open e (inr h) live = fails_open h.0 _ e h.0.returning live h.2

  -- a selection that fails changes nothing
  pub unshown_seen : (e : Error) → IsPlain (understood old.now.schema sql) → IsSettled old → IsTrue new.is_open
      → FailsToQuery sql given old new e → StaysSeen old new
  unfolding FailsToQuery IsNotRun
  unshown_seen e plain was live (inl h) = either_way old new (unchanged_seen old new was) (rolled_seen old new live was)
      h
  unshown_seen e plain was live (inr h) =
      let none = (subst IsPlain h.1.is plain).0 in
      let it = subst (FailsToShow old new sql h.0 _ e) none h.2 in
      unchanged_seen old new was it.3
