use Rattle.std.proofs.Common.{subst}
use Rattle.sqlite.specs.Held.{state}
use Rattle.sqlite.specs.Values.{bound}
use Rattle.sqlite.specs.State.{Executes}
use Rattle.am_keeper_sql.specs.Table.{upsert_text}
use Rattle.am_keeper_sql.proofs.Failures.{each_error, lasts_of}
use Rattle.am_keeper_sql.proofs.Puts.{upserted}
use Rattle.am_keeper_sql.proofs.Seen.{was_honest, executes_open, refused}
use Rattle.am_keeper_sql.proofs.table.upsert.Goals as goal

pub returns-clause-honest : goal.returns-clause-honest
returns-clause-honest g c honest =
    let old = state g.S.Store c.args.conn.now in
    let new = state g.S.Store c.execute.new.self in
    was_honest old new _ c.execute.ensures.survives (executes_open old new upsert_text (bound c.args.values.now)
    c.execute.result (c.execute.ensures.runs honest.clean)) honest

pub returns-clause-put : goal.returns-clause-put
returns-clause-put g c honest keeps row says =
    upserted (bound c.args.values.now) row says (state g.S.Store c.args.conn.now) (state g.S.Store c.execute.new.self)
    c.execute.result keeps (c.execute.ensures.runs honest.clean)

pub returns-clause-refused : goal.returns-clause-refused
returns-clause-refused g c honest was =
    refused (state g.S.Store c.args.conn.now) (state g.S.Store c.execute.new.self) upsert_text (bound c.args.values.now)
    c.execute.result (c.execute.ensures.runs honest.clean) was honest.live

pub returns-clause-lasts : goal.returns-clause-lasts
returns-clause-lasts g c = lasts_of (state g.S.Store c.args.conn.now) (state g.S.Store c.execute.new.self) _
    c.execute.ensures.survives

pub returns-clause-failed : goal.returns-clause-failed
returns-clause-failed g c clean =
    let old = state g.S.Store c.args.conn.now in
    let new = state g.S.Store c.execute.new.self in
    each_error c.execute.result (λ e is. subst (Executes upsert_text (bound c.args.values.now) old new) is
    (c.execute.ensures.runs clean))
