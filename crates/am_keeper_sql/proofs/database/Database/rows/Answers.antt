use Rattle.std.proofs.Common.{sym, subst}
use Rattle.sqlite.specs.Held.{state}
use Rattle.sqlite.specs.Steps.{over_memory}
use Rattle.am_keeper_sql.specs.Honest.{IsSettled, HoldsTable, StaysSeen, state_of}
use Rattle.am_keeper_sql.proofs.database.Database.rows.Goals as goal

pub returns-in-Memory-clause-seen : goal.returns-in-Memory-clause-seen
returns-in-Memory-clause-seen g c honest was holds =
    subst (λ d. StaysSeen (state_of g.F.Store d) (state over_memory c.select.new.conn)) (sym c.in-Memory.is)
    (c.select.ensures.seen honest (subst (λ d. IsSettled (state_of g.F.Store d)) c.in-Memory.is was)
    (subst (λ d. HoldsTable (state_of g.F.Store d).now) c.in-Memory.is holds))
