use Rattle.am_model.specs.Accounts.{accounts_from}
use Rattle.am_explain.specs.Costs.{filters_from}
use Rattle.am_explain.proofs.Walks.{AddsAlong}
use Rattle.am_explain.proofs.walk.add_package.Given as goal

abbrev pub invariant-loop-decl : goal.invariant-loop-decl
invariant-loop-decl g l =
    AddsAlong l.grounds (λ board asked. accounts_from board asked l.owner) (filters_from l.grounds.question.kind)
    l.decl-items l.decl-index l.initial.told.items l.told.items l.initial.steps l.steps
