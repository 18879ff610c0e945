use Rattle.am_model.specs.Tasks.{keeping}
use Rattle.am_tasks.specs.Leaving.{stays}
use Rattle.am_tasks.proofs.Mapping.{mapped_more}
use Rattle.am_tasks.proofs.leave.leave_each.Goals as goal

pub loop-task-preserved : goal.loop-task-preserved
loop-task-preserved c =
    mapped_more (keeping (stays c.args.leaving)) c.loop-task.task-items c.args.tasks.now.items c.loop-task.task-index _
    _ c.loop-task.invariant (rw c.deref_mut-task-items.ensures.value at c.loop-task-test.true) c.leave_task.ensures
