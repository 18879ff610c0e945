use Rattle.am_network.proofs.Opening.{other_plans}
use Rattle.am_network.proofs.memory_network.next_plan.Goals as goal

pub returns-in-Some-clause-plans : goal.returns-in-Some-clause-plans
returns-in-Some-clause-plans c = other_plans _ _ c.pop_front.ensures.rest c.requires
