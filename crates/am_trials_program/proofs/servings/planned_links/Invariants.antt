use Rattle.am_network.specs.Memory.{AreUnused}
use Rattle.am_trials_program.proofs.servings.planned_links.Given as goal

abbrev pub invariant-loop-row : goal.invariant-loop-row
invariant-loop-row l = AreUnused l.links.items
