use Rattle.std.proofs.Common.{rules, not, ◌≡◌, refl}
use Rattle.std.specs.Prelude.{filter}
use Rattle.std.proofs.lemmas.Fn.{filter_same}
use Rattle.am_types.specs.declared.broadcast.Spot.{Spot}
use Rattle.am_queue_ordered.specs.Struck.{strikes}
use Rattle.am_queue_ordered.proofs.in_turn.InTurn.strike_rest.Goals as goal

pub returns : goal.returns
returns c =
    let left : c.retain.new.self.items ≡ filter (λ (spot : Spot). not (strikes c.args.struck.now spot))
    c.self.inside.rest.items =
    filter_same _ (λ (spot : Spot). not (strikes c.args.struck.now spot)) _ (λ x b f' k. search rules) _ _
    c.retain.ensures.filtered in
    rw (left, ← c.self.view_is) refl
