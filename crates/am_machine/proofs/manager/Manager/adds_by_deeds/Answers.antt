use Rattle.am_machine.proofs.manager.Manager.adds_by_deeds.Goals as goal

pub returns : goal.returns
returns g c = record {
  adds = λ next. c.entries_add_their_deeds.ensures c.args.self.now.origin c.args.self.now.history
      next;
}
