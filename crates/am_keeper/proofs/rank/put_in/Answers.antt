use Rattle.std.proofs.Common.{IsTrue, sym, subst, ◌∙◌}
use Rattle.am_keeper.specs.Rows.{rises}
use Rattle.am_keeper.proofs.Puts.{put_in-found, put_in-absent, rises-put_in}
use Rattle.am_keeper.proofs.rank.put_in.Goals as goal

pub returns-in-Ok-clause-ok : goal.returns-in-Ok-clause-ok
returns-in-Ok-clause-ok g c = sym (put_in-found g.T.Ranked.ranking.order _ _ _
    (rw c.deref.ensures.value at c.in-Ok.ensures.found))

pub returns-in-Ok-clause-rises : goal.returns-in-Ok-clause-rises
returns-in-Ok-clause-rises g c =
    subst (λ xs. IsTrue (rises g.T.Ranked.ranking.order xs)) (put_in-found g.T.Ranked.ranking.order _ _ _
    (rw c.deref.ensures.value at c.in-Ok.ensures.found))
    (rises-put_in g.T.Ranked.ranking.order g.T.Ranked.ranking.total c.args.row c.args.rows.now.items c.requires)

pub returns-in_ok-insert-in-Err-clause-ok : goal.returns-in_ok-insert-in-Err-clause-ok
returns-in_ok-insert-in-Err-clause-ok g c =
    c.in_ok-insert-in-Err.ensures.items ∙ sym (put_in-absent g.T.Ranked.ranking.order _ _ _
    (rw c.deref.ensures.value at c.in-Err.ensures.absent))

pub returns-in_ok-insert-in-Err-clause-rises : goal.returns-in_ok-insert-in-Err-clause-rises
returns-in_ok-insert-in-Err-clause-rises g c =
    let made = c.in_ok-insert-in-Err.ensures.items ∙ sym (put_in-absent g.T.Ranked.ranking.order _ _ _
    (rw c.deref.ensures.value at c.in-Err.ensures.absent)) in
    subst (λ xs. IsTrue (rises g.T.Ranked.ranking.order xs)) (sym made) (rises-put_in g.T.Ranked.ranking.order g.T.Ranked.ranking.total
    c.args.row c.args.rows.now.items c.requires)
