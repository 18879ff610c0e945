use Rattle.std.proofs.Common.{List, length}
use Rattle.am_types.specs.declared.resolve.Registration.{Registration}
use Rattle.am_model.specs.Accounts.{registered_accounts}
use Rattle.am_explain.proofs.Walks.{AddsAlong}
use Rattle.am_explain.proofs.walk.add_registered.Given as goal

abbrev pub invariant-loop-registration : goal.invariant-loop-registration
invariant-loop-registration g l =
    AddsAlong l.grounds (λ board asked. registered_accounts board asked l.grounds.shown)
    (λ (rs : List Registration). length rs) l.registration-items l.registration-index
    l.initial.told.items l.told.items l.initial.steps l.steps
