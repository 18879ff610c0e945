use Rattle.am_model.specs.Accounts.{declared_accounts}
use Rattle.am_explain.specs.Costs.{filters_in}
use Rattle.am_explain.proofs.Walks.{AddsAlong}
use Rattle.am_explain.proofs.walk.add_declared.Given as goal

abbrev pub invariant-loop-owner : goal.invariant-loop-owner
invariant-loop-owner g l =
    AddsAlong l.grounds (λ board asked. declared_accounts board asked l.grounds.shown) (filters_in l.grounds.question.kind)
    l.owner-items l.owner-index l.initial.told.items l.told.items l.initial.steps l.steps
