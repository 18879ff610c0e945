use Rattle.std.proofs.Common.{ap, sym, ◌∙◌}
use Rattle.std.specs.Result.{is_ok}
use Rattle.am_model.specs.Cuts.{unfound_why}
use Rattle.am_index.proofs.Passing.{ok_without_reason, unfound_outside}
use Rattle.am_index.proofs.finding.is_found.Goals as goal

pub returns-clause-finds : goal.returns-clause-finds
returns-clause-finds g c =
    c.is_ok.ensures.value
    ∙ ap is_ok c.finds.ensures
    ∙ ok_without_reason (unfound_why c.args.rules c.args.filter.now c.args.intent.now c.args.need_default)

pub returns-then-not-is_tested-clause-finds : goal.returns-then-not-is_tested-clause-finds
returns-then-not-is_tested-clause-finds g c =
    sym (unfound_outside c.args.rules c.args.filter.now c.args.intent.now c.args.need_default
    (sym c.is_tested.ensures.group ∙ c.if-not-is_tested.true))
