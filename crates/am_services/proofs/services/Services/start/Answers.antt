use Rattle.std.proofs.Common.{◌∙◌, List, ap}
use Rattle.am_history.specs.State.{Service}
use Rattle.am_history.specs.Services.{running, starts_with, with_start}
use Rattle.am_services.proofs.Starts.{started_again, started_first}
use Rattle.am_services.proofs.services.Services.start.Goals as goal

pub invariant_of-self : goal.invariant_of-self
invariant_of-self c =
    (started_again _ _ c.args.component.now c.args.owner c.args.intent.now _ _ _ c.self.invariant
    (rw c.deref.ensures.value at c.in-Some.ensures)
    c.in_ok-intent-in-Some.ensures.cases c.start_again.ensures).apart

pub invariant_of-self-in-None : goal.invariant_of-self-in-None
invariant_of-self-in-None c =
    (started_first _ _ c.args.component.now c.args.owner c.args.intent.now _ c.self.invariant
    (rw c.deref.ensures.value at c.in-None.ensures)
    c.in_ok-service-in-None.ensures c.in_ok-push-in-None.ensures.items).apart

pub returns-in_ok-intent-in-Some-clause-starts : goal.returns-in_ok-intent-in-Some-clause-starts
returns-in_ok-intent-in-Some-clause-starts c =
    (started_again _ _ c.args.component.now c.args.owner c.args.intent.now _ _ _ c.self.invariant
    (rw c.deref.ensures.value at c.in-Some.ensures)
    c.in_ok-intent-in-Some.ensures.cases c.start_again.ensures).counted
    ∙ ap (λ (l : List Service). starts_with (running l c.args.component.now)) c.self.view_is

pub returns-in_ok-intent-in-Some-clause-started : goal.returns-in_ok-intent-in-Some-clause-started
returns-in_ok-intent-in-Some-clause-started c =
    (started_again _ _ c.args.component.now c.args.owner c.args.intent.now _ _ _ c.self.invariant
    (rw c.deref.ensures.value at c.in-Some.ensures)
    c.in_ok-intent-in-Some.ensures.cases c.start_again.ensures).changed
    ∙ ap (λ (l : List Service). with_start l c.args.component.now c.args.owner c.args.intent.now
    (running l c.args.component.now)) c.self.view_is

pub returns-in_ok-push-in-None-clause-starts : goal.returns-in_ok-push-in-None-clause-starts
returns-in_ok-push-in-None-clause-starts c =
    (started_first _ _ c.args.component.now c.args.owner c.args.intent.now _ c.self.invariant
    (rw c.deref.ensures.value at c.in-None.ensures)
    c.in_ok-service-in-None.ensures c.in_ok-push-in-None.ensures.items).counted
    ∙ ap (λ (l : List Service). starts_with (running l c.args.component.now)) c.self.view_is

pub returns-in_ok-push-in-None-clause-started : goal.returns-in_ok-push-in-None-clause-started
returns-in_ok-push-in-None-clause-started c =
    (started_first _ _ c.args.component.now c.args.owner c.args.intent.now _ c.self.invariant
    (rw c.deref.ensures.value at c.in-None.ensures)
    c.in_ok-service-in-None.ensures c.in_ok-push-in-None.ensures.items).changed
    ∙ ap (λ (l : List Service). with_start l c.args.component.now c.args.owner c.args.intent.now
    (running l c.args.component.now)) c.self.view_is
