use Rattle.std.proofs.Common.{OnErr, sym, subst}
use Rattle.sqlite.specs.Held.{state}
use Rattle.sqlite.specs.Steps.{over_memory}
use Rattle.am_keeper_sql.specs.Failing.{FailsToPutOnly}
use Rattle.am_keeper_sql.specs.Honest.{IsSettled, PutsInto, StaysSeen, state_of}
use Rattle.am_keeper_sql.proofs.database.Database.put.Goals as goal

pub returns-in-Memory-clause-put : goal.returns-in-Memory-clause-put
returns-in-Memory-clause-put g c =
    subst (λ d. PutsInto (state_of g.F.Store d) (state over_memory c.put.new.conn) c.args.row.now c.put.result)
    (sym c.in-Memory.is) c.put.ensures.put

pub returns-in-Memory-clause-failed : goal.returns-in-Memory-clause-failed
returns-in-Memory-clause-failed g c honest was =
    subst (λ d. OnErr c.put.result (StaysSeen (state_of g.F.Store d) (state over_memory c.put.new.conn)))
    (sym c.in-Memory.is)
    (c.put.ensures.failed honest (subst (λ d. IsSettled (state_of g.F.Store d)) c.in-Memory.is was))

pub returns-in-Memory-clause-cause : goal.returns-in-Memory-clause-cause
returns-in-Memory-clause-cause g c =
    subst (λ d. FailsToPutOnly (state_of g.F.Store d) (state over_memory c.put.new.conn) c.args.row.now c.put.result)
    (sym c.in-Memory.is) c.put.ensures.cause
