use Rattle.std.proofs.Common.{◌∙◌, sym}
use Rattle.am_queue_normal.proofs.Finding.{ascending, first_between, none_between}
use Rattle.am_queue_normal.proofs.deliveries.Deliveries.is_any_between.Goals as goal

pub returns-in-None : goal.returns-in-None
returns-in-None c =
    rw (← c.self.view_is) (sym (none_between c.args.first c.args.end c.self.inside.by_number.entries
    (sym (c.range.ensures.between tt) ∙ c.in-None.ensures.steps.0)))

pub returns-in-Some : goal.returns-in-Some
returns-in-Some c =
    rw (← c.self.view_is)
    (sym (first_between c.args.first c.args.end c.self.inside.by_number.entries c.next.new.self
    (c.in-Some.number.now, c.in-Some.field-0-1.now) (ascending c.self.inside.by_number.entries
    c.range.ensures.ordered)
    (sym (c.range.ensures.between tt) ∙ c.in-Some.ensures.steps)))
