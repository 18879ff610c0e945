use Rattle.std.proofs.Common.{◌<◌, ◌≤◌, length, sym, subst}
use Rattle.am_model.specs.Tasks.{Task}
use Rattle.am_tasks.specs.Sound.{count_in}
use Rattle.am_tasks.proofs.Once.{IsOnce}
use Rattle.am_tasks.proofs.Soundness.{instance_number}
use Rattle.am_tasks.proofs.Finding.{at_there}
use Rattle.am_tasks.proofs.Carrying.{kept_once}
use Rattle.am_tasks.proofs.carry.renew.Goals as goal

pub arrange-top-requires-clause-once : goal.arrange-top-requires-clause-once
arrange-top-requires-clause-once c = λ n. subst (λ (t : Task). count_in n t ≤ 1) (sym c.task.view_is)
    (c.requires.once n)

pub give_at-requires-clause-once : goal.give_at-requires-clause-once
give_at-requires-clause-once c =
    let once : IsOnce instance_number c.task.inside.instances.items = record
    { once = λ n. subst (λ (t : Task). count_in n t ≤ 1) (sym c.task.view_is) (c.requires.once n) } in
    let low : c.args.place < length c.task.inside.instances.items = subst
    (λ (t : Task). c.args.place < length t.instances) (sym c.task.view_is) c.requires.within in
    λ n. rw c.arrange-top.ensures.kept (kept_once c.args.keeping c.args.place c.task.inside.instances.items
    (at_there c.task.inside.instances.items c.args.place low).0 once low n)
