use Rattle.std.proofs.Common.{◌≡◌, ◌∷◌, ◌∙◌, refl, ap, sym, true}
use Rattle.std.specs.Prelude.{Some}
use Rattle.am_queue_ordered.specs.Struck.{strikes}
use Rattle.am_queue_normal.specs.Posted.{Posted}
use Rattle.am_queue_normal.proofs.Finding.{ascending, first_that, next_that, none_that}
use Rattle.am_queue_normal.proofs.deliveries.Deliveries.next_struck.Goals as goal

pub returns : goal.returns
returns c =
    let test = λ (p : Posted). strikes c.args.struck.now p.spot in
    let es = c.self.inside.by_number.entries in
    rw (← c.self.view_is)
    (none_that test c.args.from es
    (ap (first_that test) (sym (c.into_iter-number-iterator.ensures.into_iter_gives
    ∙ c.range-number-items.ensures.between tt))
    ∙ sym c.loop-number.invariant.2 ∙ ap (first_that test) c.in-None.ensures.steps.0))

pub returns-then-strikes : goal.returns-then-strikes
returns-then-strikes c =
    let test = λ (p : Posted). strikes c.args.struck.now p.spot in
    let es = c.self.inside.by_number.entries in
    let is : strikes c.args.struck.now c.delivery.inside.spot ≡ true = sym c.strikes.ensures ∙ c.if-strikes.true in
    let here : first_that test ((c.in-Some.number.now, c.in-Some.delivery.now) ∷ c.next.new.self)
    ≡ Some c.in-Some.number.now = rw (← c.delivery.view_is, is) refl in
    rw (← c.self.view_is)
    (next_that test c.args.from es c.in-Some.number.now (ascending es c.range-number-items.ensures.ordered)
    (ap (first_that test) (sym (c.into_iter-number-iterator.ensures.into_iter_gives
    ∙ c.range-number-items.ensures.between tt))
    ∙ sym c.loop-number.invariant.2 ∙ ap (first_that test) c.in-Some.ensures.steps ∙ here))
