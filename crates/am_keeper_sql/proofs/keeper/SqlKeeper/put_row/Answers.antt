use Rattle.am_keeper_sql.specs.Honest.{state_of}
use Rattle.am_keeper_sql.proofs.Kept.{put_keeps, put_rows}
use Rattle.am_keeper_sql.proofs.keeper.SqlKeeper.put_row.Goals as goal

pub invariant_of-self : goal.invariant_of-self
invariant_of-self g c =
    let it = c.put-done.ensures in
    record {
      keeps = put_keeps (state_of g.F.Store c.args.self.now.database) (state_of g.F.Store c.put-done.new.self)
          c.args.row it.honest c.args.self.now.keeps c.put-done.result it.put it.failed;
    }

pub returns-clause-rows : goal.returns-clause-rows
returns-clause-rows g c =
    let it = c.put-done.ensures in
    put_rows (state_of g.F.Store c.args.self.now.database) (state_of g.F.Store c.put-done.new.self) c.args.row
    it.honest c.args.self.now.keeps c.put-done.result it.put it.failed
