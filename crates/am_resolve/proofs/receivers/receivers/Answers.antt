use Rattle.std.proofs.Common.{◌≡◌, ◌++◌, ap, ◌∙◌, List, map, option_copied}
use Rattle.std.proofs.lemmas.Result.{IfOk-weaker}
use Rattle.am_types.specs.declared.broadcast.Receiving.{Receiving}
use Rattle.am_types.specs.declared.resolve.Hit.{Hit}
use Rattle.am_model.specs.Receivers.{declared_offers, receivers}
use Rattle.am_resolve.specs.Ranking.{in_rank, ranked_of, ranked_of_registered, receiving_of}
use Rattle.am_resolve.proofs.Ranks.{ranked_is_receivers}
use Rattle.am_resolve.proofs.receivers.receivers.Goals as goal

pub returns-clause-receivers : goal.returns-clause-receivers
returns-clause-receivers g c =
    let sent = c.args.sent.now in
    let board = sent.installed.now in
    let registered = ranked_of_registered sent board.registered in
    let declared = map (ranked_of sent) (declared_offers board.packages c.args.found.now) in
    let first : c.add_registered.new.ranked.items ≡ c.new-ranked.result.items
    ++ registered = c.in_ok-add_registered.ensures.added in
    let second : c.add_declared.new.ranked.items ≡ c.add_registered.new.ranked.items
    ++ declared = c.in_ok-add_declared.ensures in
    let added : c.add_declared.new.ranked.items ≡ registered ++ declared =
    second ∙ ap (λ l. l ++ declared) (first ∙ ap (λ l. l ++ registered) c.new-ranked.ensures.items) in
    IfOk-weaker c.in_order.result
    (λ (l : List Receiving). l ≡ map receiving_of (in_rank c.add_declared.new.ranked.items))
    (λ (l : List Receiving). l ≡ receivers board sent.intent.now sent.sender (option_copied sent.required))
    (λ l e. e ∙ ap (λ all. map receiving_of (in_rank all))
    (added ∙ ap (λ (found : List Hit). registered ++ map (ranked_of sent) (declared_offers board.packages found))
    c.requires)
    ∙ ranked_is_receivers sent)
    c.in_order.ensures
