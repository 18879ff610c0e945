use Rattle.std.proofs.Common.{◌∙◌, sym}
use Rattle.am_queue_normal.proofs.Removing.{due_or, early_or}
use Rattle.am_queue_normal.proofs.normals.Normals.is_due.Goals as goal

pub returns-clause-due : goal.returns-clause-due
returns-clause-due g c =
    let q = c.self.inside in
    rw (← c.self.view_is) (c.is_some.ensures ∙ due_or c.args.now q.end q.deliveries c.self.invariant c.first_late.result
    c.first_late.ensures.late)

pub returns-clause-early : goal.returns-clause-early
returns-clause-early g c none =
    let q = c.self.inside in
    rw (← c.self.view_is) (early_or c.args.now q.end q.deliveries c.self.invariant c.first_late.result
    c.first_late.ensures.late (sym c.is_some.ensures ∙ none))
