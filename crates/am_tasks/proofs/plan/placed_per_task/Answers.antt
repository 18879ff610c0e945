use Rattle.std.proofs.Common.{sym, ◌∙◌}
use Rattle.am_tasks.proofs.PlanLemmas.{per_task_none, per_task_at}
use Rattle.am_tasks.proofs.plan.placed_per_task.Goals as goal

pub returns-in-None : goal.returns-in-None
returns-in-None c = per_task_none c.args.start.now c.args.tasks.now c.if-start.false
    (sym c.task_rooted.ensures ∙ c.in-None.is)

pub returns-in-Some : goal.returns-in-Some
returns-in-Some c = per_task_at c.args.start.now c.args.tasks.now c.in-Some.place c.if-start.false
    (sym c.task_rooted.ensures ∙ c.in-Some.is)
