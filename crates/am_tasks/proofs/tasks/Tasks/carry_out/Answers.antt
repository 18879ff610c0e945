use Rattle.std.proofs.Common.{ap, sym, ◌∙◌}
use Rattle.am_model.specs.Tasks.{Task}
use Rattle.am_model.specs.Placement.{carried_out}
use Rattle.am_tasks.specs.declared.plan.Plan.TheVariants.{InTask}
use Rattle.am_tasks.specs.Plans.{Plans, plan_for}
use Rattle.am_tasks.proofs.Finding.{at_there}
use Rattle.am_tasks.proofs.Outcomes.{if_ok}
use Rattle.am_tasks.proofs.tasks.Tasks.carry_out.Goals as goal

pub change_task-requires-clause-fits : goal.change_task-requires-clause-fits
change_task-requires-clause-fits c =
    let planned : Plans c.args.self.now.tasks (InTask c.in-InTask.place c.in-InTask.change)
    (plan_for c.args.self.now c.args.start) = rw c.in-InTask.is at c.requires.planned in
    λ d. (planned.1 d).0

pub returns-in-InTask-clause-done : goal.returns-in-InTask-clause-done
returns-in-InTask-clause-done c =
    let planned : Plans c.args.self.now.tasks (InTask c.in-InTask.place c.in-InTask.change)
    (plan_for c.args.self.now c.args.start) = rw c.in-InTask.is at c.requires.planned in
    let d : Task = (at_there c.args.self.now.tasks c.in-InTask.place planned.0).0 in
    if_ok c.change_task.result _ _ (λ landed done. done d ∙ ap (carried_out c.args.self.now c.args.start)
    (sym (planned.1 d).1)) c.change_task.ensures.done
