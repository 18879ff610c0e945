use Rattle.std.proofs.Common.{◌≡◌, ◌∙◌, ap, rules, List, map}
use Rattle.std.proofs.lemmas.Result.{IfOk-weaker}
use Rattle.std.proofs.lemmas.List.Sorted.{answers_always}
use Rattle.am_types.specs.declared.broadcast.Receiving.{Receiving}
use Rattle.am_resolve.specs.Ranking.{in_rank, receiving_of}
use Rattle.am_resolve.proofs.Ranks.{sort_key, sorted_is_in_rank}
use Rattle.am_resolve.proofs.order.in_order.Goals as goal

pub returns : goal.returns
returns c =
    let sorted = sorted_is_in_rank _ _
    (c.in_ok-sort_by_key.ensures.sorted sort_key (answers_always _ _ _ (λ f a r g h. search rules)))
    (c.sort_by_key.ensures.stable sort_key (answers_always _ _ _ (λ f a r g h. search rules))) in
    IfOk-weaker c.receivings_of.result
    (λ (l : List Receiving). l ≡ map receiving_of c.sort_by_key.new.self.items)
    (λ (l : List Receiving). l ≡ map receiving_of (in_rank c.args.ranked.items))
    (λ l e. e ∙ ap (map receiving_of) sorted)
    c.receivings_of.ensures
