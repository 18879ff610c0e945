use Rattle.std.proofs.Common.{ap, sym, ◌∙◌}
use Rattle.std.specs.Result.{is_ok}
use Rattle.am_model.specs.Cuts.{unheard_why}
use Rattle.am_index.proofs.Passing.{ok_without_reason, unheard_outside}
use Rattle.am_index.proofs.finding.is_heard.Goals as goal

pub returns-clause-hears : goal.returns-clause-hears
returns-clause-hears g c =
    c.is_ok.ensures.value
    ∙ ap is_ok c.hears.ensures
    ∙ ok_without_reason (unheard_why c.args.rules c.args.filter.now c.args.intent.now)

pub returns-then-not-is_tested-clause-hears : goal.returns-then-not-is_tested-clause-hears
returns-then-not-is_tested-clause-hears g c =
    sym (unheard_outside c.args.rules c.args.filter.now c.args.intent.now
    (sym c.is_tested.ensures.group ∙ c.if-not-is_tested.true))
