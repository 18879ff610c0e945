use Rattle.am_queue_normal.proofs.Removing.{late_or}
use Rattle.am_queue_normal.proofs.normals.Normals.next_late.Goals as goal

pub returns-clause-late : goal.returns-clause-late
returns-clause-late g c =
    let q = c.self.inside in
    rw (← c.self.view_is) (late_or c.args.now q.end q.deliveries c.self.invariant c.first_late.result
    c.first_late.ensures.late)
