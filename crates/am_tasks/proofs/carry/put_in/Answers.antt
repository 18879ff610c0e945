use Rattle.std.proofs.Common.{◌≡◌, ◌<◌, ◌∷◌, [], ◌++◌, length, get_or, take, ap, ◌∙◌, arith}
use Rattle.std.specs.List.{remove}
use Rattle.am_model.specs.Tasks.{Task}
use Rattle.am_tasks.proofs.Carrying.{front_of_set, same_at}
use Rattle.am_tasks.proofs.carry.put_in.Goals as goal

pub returns-clause-ok : goal.returns-clause-ok
returns-clause-ok c =
    λ d.
    let low : c.args.place < length c.args.tasks.now.items = omega (arith, c.args.tasks.now.ok.0) in
    let is : c.index_mut-task.result.now ≡ get_or c.args.tasks.now.items c.args.place d = same_at c.args.tasks.now.items
    c.args.place c.index_mut-task.result.now d low c.index_mut-task.ensures.value in
    let changed : Task → Task = λ (t : Task). record t { instances = take c.args.kept t.instances ++ c.args.fresh ∷ [] }
    in
    let made : c.put_fresh.new.task ≡ changed (get_or c.args.tasks.now.items c.args.place d) =
    c.in_ok-put_fresh.ensures.ok ∙ ap changed is in
    let front = front_of_set c.args.tasks.now.items c.to_front.new.tasks.items c.args.place c.put_fresh.new.task low
    c.to_front.ensures in (
      ap (λ (t : Task). t.number) c.task.view_is ∙ ap (λ (t : Task). t.number) made,
      front ∙ ap (λ (t : Task). t ∷ remove c.args.tasks.now.items c.args.place) made,
    )
