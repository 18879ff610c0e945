use Rattle.std.proofs.Common.{◌∙◌, rules}
use Rattle.std.proofs.lemmas.List.Sorted.{answers_always}
use Rattle.am_index.proofs.Priorities.{sort_key, sorted_is_profile_order}
use Rattle.am_index.proofs.turn.profile_order.Goals as goal

pub returns : goal.returns
returns c =
    c.new.ensures ∙ sorted_is_profile_order _ _
    (c.in_ok-sort_by_key.ensures.sorted sort_key (answers_always _ _ _ (λ f a r g h. search rules)))
    (c.sort_by_key.ensures.stable sort_key (answers_always _ _ _ (λ f a r g h. search rules)))
