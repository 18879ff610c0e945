use Rattle.am_keeper_sql.specs.Honest.{state_of}
use Rattle.am_keeper_sql.proofs.Kept.{told_keeps, told_rows, told_same}
use Rattle.am_keeper_sql.proofs.keeper.SqlKeeper.told.Goals as goal

pub invariant_of-self : goal.invariant_of-self
invariant_of-self g c =
    let it = c.rows-told.ensures in
    record {
      keeps = told_keeps (state_of g.F.Store c.args.self.now.database) (state_of g.F.Store c.rows-told.new.self)
          it.honest c.args.self.now.keeps it.seen;
    }

pub returns-clause-rows : goal.returns-clause-rows
returns-clause-rows g c =
    let it = c.rows-told.ensures in
    told_rows (state_of g.F.Store c.args.self.now.database) (state_of g.F.Store c.rows-told.new.self) it.honest
    c.args.self.now.keeps it.seen c.rows-told.result it.told

pub returns-clause-same : goal.returns-clause-same
returns-clause-same g c =
    let it = c.rows-told.ensures in
    told_same (state_of g.F.Store c.args.self.now.database) (state_of g.F.Store c.rows-told.new.self) it.honest
    c.args.self.now.keeps it.seen
