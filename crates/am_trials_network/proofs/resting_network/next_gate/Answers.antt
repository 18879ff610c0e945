use Rattle.std.proofs.Common.{sym, subst}
use Rattle.std.proofs.lemmas.List.Elements.{All-drop}
use Rattle.am_trials_network.specs.Gates.{AreNew, IsNew}
use Rattle.am_trials_network.proofs.resting_network.next_gate.Goals as goal

pub returns-in-Some-clause-others : goal.returns-in-Some-clause-others
returns-in-Some-clause-others c = subst AreNew (sym c.pop_front.ensures.rest) (All-drop IsNew 1 _ c.requires)
