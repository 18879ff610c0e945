use Rattle.am_queue_normal.proofs.Finding.{none_late, soonest_of}
use Rattle.am_queue_normal.proofs.deliveries.Deliveries.soonest.Goals as goal

pub returns-in-None-clause-soonest : goal.returns-in-None-clause-soonest
returns-in-None-clause-soonest g c now =
    rw (← c.self.view_is) (none_late c.self.inside.by_deadline c.self.inside.by_uid c.self.inside.by_number.entries now
    c.self.invariant c.in-None.ensures)

pub returns-in-Some-clause-soonest : goal.returns-in-Some-clause-soonest
returns-in-Some-clause-soonest g c =
    rw (← c.self.view_is) (soonest_of c.self.inside.by_deadline c.self.inside.by_uid c.self.inside.by_number.entries
    c.in-Some.deadline c.in-Some.field-0-1 c.self.invariant c.in-Some.ensures)
