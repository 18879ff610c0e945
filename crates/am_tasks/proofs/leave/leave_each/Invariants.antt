use Rattle.std.proofs.Common.{◌≡◌, ◌++◌, take, drop, map}
use Rattle.am_model.specs.Tasks.{keeping}
use Rattle.am_tasks.specs.Leaving.{stays}
use Rattle.am_tasks.proofs.leave.leave_each.Given as goal

abbrev pub invariant-loop-task : goal.invariant-loop-task
invariant-loop-task l =
    l.task-items ≡ map (keeping (stays l.leaving)) (take l.task-index l.fn.tasks.items)
    ++ drop l.task-index l.fn.tasks.items
