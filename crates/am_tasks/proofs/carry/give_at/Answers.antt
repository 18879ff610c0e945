use Rattle.std.proofs.Common.{◌<◌, length, ap, sym, ◌∙◌, arith}
use Rattle.am_model.specs.Placement.{with_intent}
use Rattle.am_tasks.proofs.Carrying.{renewed_at}
use Rattle.am_tasks.proofs.carry.give_at.Goals as goal

pub returns-clause-renewed : goal.returns-clause-renewed
returns-clause-renewed c =
    let low : c.args.place < length c.args.instances.now.items = omega (arith, c.args.instances.now.ok.0) in
    renewed_at c.args.instances.now.items c.args.place c.args.intent c.index_mut.result.now c.give.new.instance
    (record { once = c.requires.once }) low c.index_mut.ensures.value c.give.ensures.given
    ∙ ap (λ n. with_intent n c.args.intent c.args.instances.now.items) (sym c.give.ensures.number)
