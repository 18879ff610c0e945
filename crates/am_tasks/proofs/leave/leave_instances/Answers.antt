use Rattle.std.proofs.Common.{rules}
use Rattle.std.proofs.lemmas.Fn.{filter_same}
use Rattle.am_tasks.specs.Leaving.{stays}
use Rattle.am_tasks.proofs.leave.leave_instances.Goals as goal

pub returns : goal.returns
returns c = filter_same _ (stays c.args.leaving) _ (λ x b f k. search rules) _ _ c.retain.ensures.filtered
