use Rattle.std.proofs.Common.{◌≡◌, ◌∙◌, List, true, not, rules, ap, sym, subst}
use Rattle.std.specs.List.{filter}
use Rattle.std.proofs.lemmas.Fn.{filter_same}
use Rattle.am_history.specs.State.{Service}
use Rattle.am_history.specs.Services.{is_service}
use Rattle.am_services.specs.Apart.{are_apart}
use Rattle.am_services.proofs.Starts.{left_apart}
use Rattle.am_services.proofs.services.Services.stop.Goals as goal

pub invariant_of-self : goal.invariant_of-self
invariant_of-self c =
    subst (λ (l : List Service). are_apart l ≡ true)
    (sym (filter_same _ (λ service. not (is_service c.args.component.now service)) _ (λ x b f k. search rules) _ _
    c.retain.ensures.filtered))
    (left_apart (λ service. not (is_service c.args.component.now service)) c.self.inside.running.items c.self.invariant)

pub returns : goal.returns
returns c =
    filter_same _ (λ service. not (is_service c.args.component.now service)) _ (λ x b f k. search rules) _ _
    c.retain.ensures.filtered
    ∙ ap (λ (l : List Service). filter (λ service. not (is_service c.args.component.now service)) l) c.self.view_is
