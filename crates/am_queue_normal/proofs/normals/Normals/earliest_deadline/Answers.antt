use Rattle.am_queue_normal.proofs.Soonest.{soonest_is}
use Rattle.am_queue_normal.proofs.normals.Normals.earliest_deadline.Goals as goal

pub returns-clause-earliest : goal.returns-clause-earliest
returns-clause-earliest g c =
    let q = c.self.inside in
    rw (← c.self.view_is) (soonest_is q.end q.deliveries c.self.invariant c.soonest.result c.soonest.ensures.soonest)
