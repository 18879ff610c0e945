use Rattle.std.proofs.Common.{[], subst}
use Rattle.sqlite.specs.Held.{state}
use Rattle.sqlite.specs.State.{Executes}
use Rattle.am_keeper_sql.proofs.Texts.{create_text}
use Rattle.am_keeper_sql.proofs.Upserts.{made}
use Rattle.am_keeper_sql.proofs.Seen.{was_honest, executes_open}
use Rattle.am_keeper_sql.proofs.Failures.{lasts_of, create_fails, each_error}
use Rattle.am_keeper_sql.proofs.table.create.Goals as goal

pub returns-clause-honest : goal.returns-clause-honest
returns-clause-honest g c honest =
    let old = state g.S.Store c.args.conn.now in
    let new = state g.S.Store c.execute.new.self in
    was_honest old new _ c.execute.ensures.survives (executes_open old new create_text [] c.execute.result
    (c.execute.ensures.runs honest.clean)) honest

pub returns-clause-made : goal.returns-clause-made
returns-clause-made g c honest was has = made (state g.S.Store c.args.conn.now) (state g.S.Store c.execute.new.self)
    c.execute.result has was (c.execute.ensures.runs honest.clean)

pub returns-clause-lasts : goal.returns-clause-lasts
returns-clause-lasts g c = lasts_of (state g.S.Store c.args.conn.now) (state g.S.Store c.execute.new.self) _
    c.execute.ensures.survives

pub returns-clause-failed : goal.returns-clause-failed
returns-clause-failed g c clean live has =
    let old = state g.S.Store c.args.conn.now in
    let new = state g.S.Store c.execute.new.self in
    each_error c.execute.result (λ e is. create_fails old new e has live
    (subst (Executes create_text [] old new) is (c.execute.ensures.runs clean)))
