use Rattle.std.proofs.Common.{sym, subst}
use Rattle.std.proofs.lemmas.List.Elements.{All-push}
use Rattle.am_trials_network.specs.Gates.{AreUnused, HasUnusedEnds}
use Rattle.am_trials_program.proofs.resting.planned_links.Goals as goal

pub loop-row-preserved : goal.loop-row-preserved
loop-row-preserved c =
    subst AreUnused (sym c.in_ok-push.ensures.items) (All-push HasUnusedEnds c.loop-row.links.items
    c.in_ok-planned_link.field-0 c.loop-row.invariant c.in_ok-planned_link.ensures)
