-- What a keeper returns for an error of its database, and its count of faults.
use Rattle.std.specs.Prelude.{ℕ, Result, Ok, Err}
use Rattle.sqlite.specs.declared.error.Error.{Error}
use Rattle.sqlite.specs.declared.error.Error.TheVariants.{SqliteFailure}
use Rattle.sqlite.specs.declared.error.ErrorCode.TheVariants.{OutOfMemory}
use Rattle.am_keeper.specs.declared.failure.KeepFail.{KeepFail}
use Rattle.am_keeper.specs.declared.failure.KeepFail.TheVariants.{Failed, NoMemory}
use Rattle.am_keeper.specs.Keeping.{raised_by}

-- the answer for an error of the database: memory ran out if the error says so, and the store failed for any other
-- error
abbrev pub told_as : Error → KeepFail
told_as (SqliteFailure OutOfMemory) = NoMemory
told_as _ = Failed

-- the count after a call: only a fault raises it
abbrev pub faults_after : {X : Type 0} → ℕ → Result X KeepFail → ℕ
faults_after count (Ok done) = count
faults_after count (Err Failed) = raised_by 1 count
faults_after count (Err NoMemory) = count
