use Rattle.std.proofs.Common.{◌∙◌, refl, sym}
use Rattle.am_queue.proofs.Finishing.{unheld, no_holder}
use Rattle.am_queue.proofs.queues.Queues.finish_normal.Goals as goal

pub returns-else-is_some : goal.returns-else-is_some
returns-else-is_some c =
    let none = no_holder c.holder.result _ c.holder.ensures.held (sym c.is_some.ensures ∙ c.if-is_some.false) in
    rw (← c.self.view_is, unheld c.args.number c.self.inside.normals.normal none c.holder.ensures.live) refl
