use Rattle.std.proofs.Common.{refl, ap, sym, ◌∙◌, Ok}
use Rattle.am_model.specs.Tasks.{finish}
use Rattle.am_tasks.proofs.tasks.Tasks.finish.Goals as goal

pub returns-in-None-clause-refused : goal.returns-in-None-clause-refused
unfolding finish
returns-in-None-clause-refused c = rw (sym c.owner.ensures ∙ c.in-None.is) refl

pub returns-in-Some-clause-ended : goal.returns-in-Some-clause-ended
unfolding finish
returns-in-Some-clause-ended c = rw (sym c.owner.ensures ∙ c.in-Some.is, sym c.may_end.ensures ∙ c.if-may_end.true)
    (ap Ok (sym c.end.ensures.ended))

pub returns-in-Some-2-clause-refused : goal.returns-in-Some-2-clause-refused
unfolding finish
returns-in-Some-2-clause-refused c = rw (sym c.owner.ensures ∙ c.in-Some.is, sym c.may_end.ensures ∙ c.if-may_end.false)
    refl
