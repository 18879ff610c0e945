use Rattle.std.proofs.Common.{◌∙◌, rules}
use Rattle.std.proofs.lemmas.List.Sorted.{answers_always}
use Rattle.am_index.proofs.Priorities.{phone_before, phone_before_order, sorted_is_phone_order}
use Rattle.am_index.proofs.turn.phone_order.Goals as goal

pub returns : goal.returns
returns c =
    c.new.ensures ∙ sorted_is_phone_order _ _
    (c.in_ok-sort_by.ensures.sorted phone_before phone_before_order (answers_always _ _ _ (λ f a r g h. search rules)))
    (c.sort_by.ensures.stable phone_before phone_before_order (answers_always _ _ _ (λ f a r g h. search rules)))
