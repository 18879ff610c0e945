use Rattle.std.proofs.Common.{sym, ◌∙◌}
use Rattle.am_explain.proofs.Reasons.{same_reason}
use Rattle.am_explain.proofs.tested.test.Goals as goal

pub returns-clause-reason : goal.returns-clause-reason
returns-clause-reason g c = same_reason _ _ (sym c.reason_of.ensures ∙ c.finds.ensures)
