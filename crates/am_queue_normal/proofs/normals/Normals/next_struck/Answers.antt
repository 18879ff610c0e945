use Rattle.am_queue_ordered.specs.Struck.{strikes}
use Rattle.am_queue_normal.proofs.Removing.{below_next, struck_or}
use Rattle.am_queue_normal.proofs.normals.Normals.next_struck.Goals as goal

pub returns-clause-all : goal.returns-clause-all
returns-clause-all c =
    let q = c.self.inside in
    rw (← c.self.view_is) (struck_or (strikes c.args.struck.now) c.args.from q.end q.deliveries c.self.invariant
    (rw (← c.self.view_is) at c.requires) c.next_struck.result c.next_struck.ensures)

pub returns-clause-below : goal.returns-clause-below
returns-clause-below c =
    let q = c.self.inside in
    rw (← c.self.view_is) (below_next (strikes c.args.struck.now) c.args.from q.end q.deliveries c.self.invariant
    (rw (← c.self.view_is) at c.requires) c.next_struck.result c.next_struck.ensures)
