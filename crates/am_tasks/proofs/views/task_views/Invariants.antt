use Rattle.std.proofs.Common.{◌≡◌, take, map}
use Rattle.am_model.specs.Tasks.{may_see, task_view, tasks_keeping}
use Rattle.am_tasks.proofs.views.task_views.Given as goal

abbrev pub invariant-loop-task : goal.invariant-loop-task
invariant-loop-task l = l.shown.items ≡ map task_view (tasks_keeping (may_see l.uid) (take l.task-index l.tasks))
