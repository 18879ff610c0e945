use Rattle.std.proofs.Common.{arith}
use Rattle.std.proofs.lemmas.Bool.Decides.{nat_tests}
use Rattle.am_queue_normal.proofs.Finding.{none_late, none_late_yet}
use Rattle.am_queue_normal.proofs.deliveries.Deliveries.first_late.Goals as goal

pub returns-in-None-clause-late : goal.returns-in-None-clause-late
returns-in-None-clause-late g c =
    rw (← c.self.view_is) (none_late c.self.inside.by_deadline c.self.inside.by_uid c.self.inside.by_number.entries
    c.args.now c.self.invariant c.in-None.ensures)

pub returns-else-deadline-now-clause-late : goal.returns-else-deadline-now-clause-late
returns-else-deadline-now-clause-late g c =
    rw (← c.self.view_is)
    (none_late_yet c.self.inside.by_deadline c.self.inside.by_uid c.self.inside.by_number.entries c.args.now
    c.in-Some.deadline c.in-Some.number c.self.invariant c.in-Some.ensures
    (grind (arith, nat_tests, c.if-deadline-now.false)))
