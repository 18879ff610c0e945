use Rattle.am_tasks.specs.Leaving.{stays}
use Rattle.am_model.specs.Tasks.{Tasks}
use Rattle.std.proofs.Common.{sym, subst}
use Rattle.am_tasks.specs.Roots.{AreRoots}
use Rattle.am_tasks.proofs.RootLemmas.{end_keeps}
use Rattle.am_tasks.proofs.Soundness.{sound_left}
use Rattle.am_tasks.proofs.Held.{held}
use Rattle.am_tasks.proofs.tasks.Tasks.end.Goals as goal

pub invariant_of-self : goal.invariant_of-self
invariant_of-self c =
    let all : Tasks = held c.self.inside in
    rw c.leave.ensures (sound_left (stays c.args.leaving) all c.self.invariant)

pub returns-clause-roots : goal.returns-clause-roots
returns-clause-roots c =
    λ component roots.
    let all : Tasks = held c.self.inside in
    rw c.leave.ensures (end_keeps component (stays c.args.leaving) all
    (subst (AreRoots component) (sym c.self.view_is) roots))
