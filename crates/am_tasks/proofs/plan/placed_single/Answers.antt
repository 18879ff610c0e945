use Rattle.std.proofs.Common.{sym, ◌∙◌}
use Rattle.am_tasks.proofs.PlanLemmas.{single_none, single_lost, single_at}
use Rattle.am_tasks.proofs.plan.placed_single.Goals as goal

pub returns-in-None : goal.returns-in-None
returns-in-None c = single_none c.args.start.now c.args.tasks.now (sym c.task_with.ensures ∙ c.in-None.is)

pub returns-in-None-topmost_in : goal.returns-in-None-topmost_in
returns-in-None-topmost_in c =
    single_lost c.args.start.now c.args.tasks.now c.in-Some.place c.index-tasks-place.result
    (sym c.task_with.ensures ∙ c.in-Some.is) c.index-tasks-place.is c.in-None-topmost_in.ensures.found

pub returns-in-Some-topmost_in : goal.returns-in-Some-topmost_in
returns-in-Some-topmost_in c =
    single_at c.args.start.now c.args.tasks.now c.in-Some.place c.in-Some-topmost_in.instance c.index-tasks-place.result
    (sym c.task_with.ensures ∙ c.in-Some.is) c.index-tasks-place.is
    c.in-Some-topmost_in.ensures.found
    c.in-Some-topmost_in.ensures.within
