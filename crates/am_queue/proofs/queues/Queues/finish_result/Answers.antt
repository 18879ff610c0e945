use Rattle.std.proofs.Common.{◌∙◌, refl, sym}
use Rattle.am_queue.proofs.Finishing.{no_holder}
use Rattle.am_queue.proofs.Rising.{unheld_result}
use Rattle.am_queue.proofs.queues.Queues.finish_result.Goals as goal

pub holder-requires : goal.holder-requires
holder-requires c = (c.self.inside.next_delivery, c.self.invariant.sound.rising)

pub returns-else-is_some : goal.returns-else-is_some
returns-else-is_some c =
    let none = no_holder c.holder.result _ c.holder.ensures (sym c.is_some.ensures ∙ c.if-is_some.false) in
    rw (← c.self.view_is, unheld_result c.args.number c.self.inside.results.list none) refl
