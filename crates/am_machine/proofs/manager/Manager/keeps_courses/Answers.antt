use Rattle.am_machine.proofs.manager.Manager.keeps_courses.Goals as goal

pub returns-clause-courses : goal.returns-clause-courses
returns-clause-courses g c = c.courses_are_kept.ensures c.args.self.now.origin c.args.self.now.history

pub returns-clause-turns : goal.returns-clause-turns
returns-clause-turns g c = c.deliveries_go_in_turn.ensures c.args.self.now.origin c.args.self.now.history
