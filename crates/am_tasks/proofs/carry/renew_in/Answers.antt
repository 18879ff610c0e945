use Rattle.std.proofs.Common.{◌≡◌, ◌<◌, ◌≤◌, ◌∷◌, length, get_or, ap, sym, ◌∙◌, subst, arith}
use Rattle.std.specs.List.{remove}
use Rattle.am_model.specs.Tasks.{Task}
use Rattle.am_model.specs.Placement.{with_intent}
use Rattle.am_tasks.specs.Plans.{kept_by, number_at}
use Rattle.am_tasks.specs.Sound.{count_in}
use Rattle.am_tasks.proofs.Carrying.{front_of_set, same_at}
use Rattle.am_tasks.proofs.carry.renew_in.Goals as goal

pub renew-renewed-requires-clause-once : goal.renew-renewed-requires-clause-once
renew-renewed-requires-clause-once c = λ n. subst (λ (t : Task). count_in n t ≤ 1) (sym c.index_mut-task.ensures.value)
    (c.requires.once c.index_mut-task.result.now n)

pub returns : goal.returns
returns c =
    λ d.
    let low : c.args.place < length c.args.tasks.now.items = omega (arith, c.args.tasks.now.ok.0) in
    let is : c.index_mut-task.result.now ≡ get_or c.args.tasks.now.items c.args.place d = same_at c.args.tasks.now.items
    c.args.place c.index_mut-task.result.now d low c.index_mut-task.ensures.value in
    let changed : Task → Task = λ (t : Task). record t {
      instances = with_intent c.renew-renewed.result c.args.intent
          (kept_by c.args.keeping c.args.instance t.instances);
    } in
    let made : c.renew-renewed.new.task ≡ changed (get_or c.args.tasks.now.items c.args.place d) =
    c.renew-renewed.ensures.renewed ∙ ap changed is in
    let front = front_of_set c.args.tasks.now.items c.to_front.new.tasks.items c.args.place c.renew-renewed.new.task low
    c.to_front.ensures in (
      ap (λ (t : Task). t.number) c.task.view_is ∙ ap (λ (t : Task). t.number) made,
      c.renew-renewed.ensures.number ∙ ap (λ (t : Task). number_at t.instances c.args.instance) is,
      front ∙ ap (λ (t : Task). t ∷ remove c.args.tasks.now.items c.args.place) made,
    )
