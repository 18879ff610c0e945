use Rattle.am_trials_network.specs.Gates.{AreNew}
use Rattle.am_trials_program.proofs.resting.planned_gates.Given as goal

abbrev pub invariant-loop-part : goal.invariant-loop-part
invariant-loop-part l = AreNew l.made.items
