use Rattle.am_trials_network.specs.Gates.{AreUnused}
use Rattle.am_trials_program.proofs.resting.planned_links.Given as goal

abbrev pub invariant-loop-row : goal.invariant-loop-row
invariant-loop-row l = AreUnused l.links.items
