use Rattle.std.proofs.Common.{ℕ, ap, sym, ◌∙◌}
use Rattle.crossbeam_queue.specs.Passes.{view}
use Rattle.am_history.specs.Steps.{Call}
use Rattle.am_baton.proofs.Desks.{call_shows, call_refused}
use Rattle.am_baton.proofs.shared.SharedDeskDesk.call.Goals as goal

pub returns-clause-shown : goal.returns-clause-shown
returns-clause-shown g c =
    let call : ℕ → Call = λ desk. record {
      desk = desk;
      key = c.args.asked.key.now;
      now = c.args.asked.now;
      weight =
          c.args.asked.weight;
      request = c.args.asked.request;
    } in
    call_shows c.self.inside.pass.table_id _ _ _ c.args.self.now (view c.give.new.pass).mark.seen _ _
    (call c.args.self.now.number) _
    c.take_filled-turn.ensures.taken (sym c.self.view_is) (ap (λ v. v.mark.seen) c.give.ensures.put)
    (ap call (c.self.invariant.2 ∙ ap (λ d. d.number) c.self.view_is))
    (rw c.deref_mut.ensures.value at c.step-shown.ensures.shown)

pub returns-clause-refused : goal.returns-clause-refused
returns-clause-refused g c =
    call_refused c.self.inside.pass.table_id _ _ _ c.args.self.now _ _ _
    c.take_filled-turn.ensures.taken (sym c.self.view_is) (ap (λ v. v.mark.seen) c.give.ensures.put)
    (rw c.deref_mut.ensures.value at c.step-shown.ensures.refused)
