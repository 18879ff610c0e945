-- A keeper and a store in memory.
use Rattle.std.specs.Prelude.{◌≡◌, ◌≢◌, ◌↔◌, ℕ, ◌≤◌, Bool, IsTrue, List, Option, Result, Ok, Err}
use Rattle.am_outside.specs.Memory.{fails}
use Rattle.am_keeper.specs.declared.failure.KeepFail.{KeepFail}
use Rattle.am_keeper.specs.declared.failure.KeepFail.TheVariants.{Failed, NoMemory}
use Rattle.am_keeper.specs.declared.rows.Row.{Row}
use Rattle.am_keeper.specs.declared.rows.Rows.{Rows}
use Rattle.am_keeper.specs.Rows.{with_row}
use Rattle.am_keeper.specs.Keeping.{raised_by}

-- what a keeper in memory holds: its rows and their place, the numbers of the calls that fail, and how many calls and
-- faults there were
pub record InMemory : Type 0 where
  pub told : Rows
  pub place : Option (List ℕ)
  pub failing : List ℕ
  pub calls : ℕ
  pub faults : ℕ

-- the call of this number is one of those that fail
abbrev pub fails_at : List ℕ → ℕ → Bool
fails_at = fails

-- one more call
abbrev pub one_more : ℕ → ℕ
one_more = raised_by 1

-- a keeper that hasn't been called yet
abbrev pub fresh_keeper : Rows → Option (List ℕ) → List ℕ → InMemory
fresh_keeper told place failing = record { told = told; place = place; failing = failing; calls = 0; faults = 0 }

-- the keeper after a call that was to make these rows: a failure counts as a fault, and leaves the rows as they are
abbrev pub after_put : {X : Type 0} → InMemory → Rows → Result X KeepFail → InMemory
after_put keeper told (Ok done) = record keeper { told = told; calls = one_more keeper.calls }
after_put keeper told (Err Failed) = record keeper { calls = one_more keeper.calls; faults = one_more keeper.faults }
after_put keeper told (Err NoMemory) = record keeper { calls = one_more keeper.calls }

-- a keeper in memory was asked once to put a row: it counted the call, and failed if and only if it was told to
pub record IsPut {X : Type 0} (row : Row) (old new : InMemory) (answer : Result X KeepFail) : Type 0 where
  pub exact : new ≡ after_put old (with_row old.told row) answer
  pub fails : (answer ≡ Err Failed) ↔ IsTrue (fails_at old.failing (one_more old.calls))
  pub never_falls : old.faults ≤ new.faults
  pub only_failed : answer ≢ Err Failed → new.faults ≡ old.faults
