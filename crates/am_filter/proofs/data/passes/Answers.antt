use Rattle.am_filter.proofs.data.passes.Goals as goal

pub returns-in-None-None : goal.returns-in-None-None
returns-in-None-None c = rw (c.in-None-None.is-0, c.in-None-None.is-1) (c.passes_bare.ensures c.args.rules)

pub returns-in-None-Some : goal.returns-in-None-Some
returns-in-None-Some c = rw (c.in-None-Some.is-0, c.in-None-Some.is-1) (c.passes_type_alone.ensures c.args.rules)
