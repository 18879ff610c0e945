use Rattle.std.proofs.Common.{◌<◌, length, sym, subst}
use Rattle.am_model.specs.Tasks.{Tasks}
use Rattle.am_tasks.proofs.Soundness.{sound_new_task}
use Rattle.am_tasks.proofs.Held.{held}
use Rattle.am_tasks.proofs.tasks.Tasks.start_task.Goals as goal

pub invariant_of-self-2 : goal.invariant_of-self-2
invariant_of-self-2 c =
    let all : Tasks = held c.self.inside in
    let room : length all.tasks < 64 = subst (λ (t : Tasks). length t.tasks < 64) (sym c.self.view_is) c.requires.room
    in
    rw (c.in_ok-insert.ensures.items, c.in_ok-made.ensures) (sound_new_task all c.args.start c.args.single
    c.self.invariant room)
