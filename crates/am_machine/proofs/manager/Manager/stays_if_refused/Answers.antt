use Rattle.am_machine.proofs.manager.Manager.stays_if_refused.Goals as goal

pub returns : goal.returns
returns g c = record {
  refused = λ next. c.refusals_change_nothing.ensures c.args.self.now.origin
      c.args.self.now.history next;
}
