use Rattle.std.proofs.Common.{Some, refl, ap, subst, sym, ◌∙◌}
use Rattle.std.specs.Option.{option_map}
use Rattle.am_network.specs.Links.{HandsOut, Links}
use Rattle.am_trials_network.specs.Gates.{RestingInMemory, ends_view, links_of}
use Rattle.am_trials_network.proofs.Handing.{hands_first}
use Rattle.am_trials_network.proofs.resting_gate.RestingGateAcceptor.accept.Goals as goal

-- counting the call left the links as they were, so that none is parked
pub returns-clause-next : goal.returns-clause-next
returns-clause-next c =
    subst (λ (links : Links). HandsOut (Some links) (Some (links_of c.hand_first.new.self))
    (option_map ends_view c.hand_first.result)) (ap links_of c.in_ok-count_call.ensures.exact) (
    hands_first c.count_call.new.self c.hand_first.new.self _ c.hand_first.result
    (ap (λ (gate : RestingInMemory). gate.parked) c.in_ok-count_call.ensures.exact ∙ c.requires.none_parked)
    refl c.hand_first.ensures.answer c.hand_first.ensures.exact c.hand_first.ensures.unused
    )
