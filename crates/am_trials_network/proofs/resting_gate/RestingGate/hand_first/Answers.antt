use Rattle.std.proofs.Common.{◌≡◌, Some, sym, ap, subst, slice_get}
use Rattle.std.specs.Prelude.{IfSome}
use Rattle.std.specs.Option.{option_map}
use Rattle.am_trials_network.specs.Gates.{HasUnusedEnds, RestingInMemory, ends_of}
use Rattle.am_trials_network.proofs.Handing.{length_next, next_at, rest_at, unused_at}
use Rattle.am_trials_network.proofs.resting_gate.RestingGate.hand_first.Goals as goal

pub invariant_of-self-2 : goal.invariant_of-self-2
invariant_of-self-2 c = (
  rest_at c.self.inside.plan.value _ _ c.self.inside.handed c.self.invariant.0 c.in_ok-planned.ensures.rest,
  length_next c.self.inside.plan.value _ _ c.self.inside.handed _ c.self.invariant.0 c.in_ok-planned.ensures.items,
  c.self.invariant.2,
  c.self.invariant.3,
  c.self.invariant.4,
)

pub returns-clause-answer : goal.returns-clause-answer
returns-clause-answer c =
    subst (λ (g : RestingInMemory). Some (ends_of c.self.inside.handed c.in_ok-planned.planned)
    ≡ option_map (ends_of g.handed) (slice_get g.plan g.handed)) c.self.view_is
    (sym (ap (option_map (ends_of c.self.inside.handed))
    (next_at c.self.inside.plan.value _ _ c.self.inside.handed c.in_ok-planned.planned c.self.invariant.0
    c.in_ok-planned.ensures.items)))

pub returns-clause-unused : goal.returns-clause-unused
returns-clause-unused c =
    subst (λ (g : RestingInMemory). IfSome (slice_get g.plan g.handed) HasUnusedEnds) c.self.view_is
    (unused_at c.self.inside.plan.value c.self.inside.handed c.self.invariant.4)
