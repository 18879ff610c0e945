use Rattle.std.proofs.Common.{[], ◌∷◌, ◌++◌, ◌∙◌, ap, append_assoc}
use Rattle.am_model.specs.Sending.{place_item, by_number}
use Rattle.std.specs.Prelude.{take}
use Rattle.am_queue.proofs.Ordering.{first_placed}
use Rattle.am_queue.proofs.inbox.first_by_number.Goals as goal

pub loop-item-preserved : goal.loop-item-preserved
loop-item-preserved c =
    let taken = c.loop-item.invariant.0 in
    let item = c.in-Some.item in (
      item ∷ taken,
      c.loop-item.invariant.1 ∙ ap (λ l. l ++ taken) c.in-Some.ensures.items
          ∙ append_assoc c.pop.new.self.items (item ∷ []) taken,
      c.in_ok-place_item.ensures ∙ ap (λ l. take 64 (place_item item l)) c.loop-item.invariant.2
          ∙ first_placed 64 item (by_number taken),
    )
