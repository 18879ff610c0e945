use Rattle.am_machine.proofs.manager.Manager.reaches_the_admitted.Goals as goal

pub returns-clause-receivers : goal.returns-clause-receivers
returns-clause-receivers g c = c.receivers_are_admitted.ensures c.args.self.now.origin c.args.self.now.history

pub returns-clause-instances : goal.returns-clause-instances
returns-clause-instances g c = c.instances_are_admitted.ensures c.args.self.now.origin c.args.self.now.history

pub returns-clause-intents : goal.returns-clause-intents
returns-clause-intents g c = λ next. c.intents_are_admitted.ensures c.args.self.now.origin c.args.self.now.history next
