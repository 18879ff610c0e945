use Rattle.am_tasks.proofs.Fullness.{room_at_place}
use Rattle.am_tasks.proofs.tasks.is_full_for.Goals as goal

pub returns-in-FreshAt : goal.returns-in-FreshAt
returns-in-FreshAt c = λ all within room. rw c.in-FreshAt.is (room_at_place all c.args.task.now c.in-FreshAt.field-0
    (rw c.in-FreshAt.is at within) room.1)
