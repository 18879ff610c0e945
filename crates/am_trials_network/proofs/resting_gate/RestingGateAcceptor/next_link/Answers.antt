use Rattle.std.proofs.Common.{Some, refl, ap, subst}
use Rattle.std.specs.Option.{option_map}
use Rattle.am_network.specs.Links.{HandsNext, Links}
use Rattle.am_trials_network.specs.Gates.{handed_view, links_of}
use Rattle.am_trials_network.proofs.Handing.{hands_next}
use Rattle.am_trials_network.proofs.resting_gate.RestingGateAcceptor.next_link.Goals as goal

-- counting the call left the links as they were
pub returns-clause-next : goal.returns-clause-next
returns-clause-next c =
    subst (λ (links : Links). HandsNext c.args.takes_new (Some links) (Some (links_of c.hand_next.new.self))
    (option_map handed_view c.hand_next.result)) (ap links_of c.in_ok-count_call.ensures.exact) (
    hands_next c.args.takes_new c.count_call.new.self c.hand_next.new.self _ c.hand_next.result refl c.hand_next.ensures.answer
    c.hand_next.ensures.exact c.hand_next.ensures.unused
    )
