use Rattle.am_network.specs.Memory.{ArePlans}
use Rattle.am_trials_program.proofs.servings.planned_gates.Given as goal

abbrev pub invariant-loop-part : goal.invariant-loop-part
invariant-loop-part l = ArePlans l.planned.items
