use Rattle.std.proofs.Common.{not, rules, ap, ◌∙◌}
use Rattle.std.specs.List.{filter}
use Rattle.std.proofs.lemmas.Fn.{filter_same}
use Rattle.am_model.specs.Filters.{is_empty}
use Rattle.am_model.specs.Tasks.{Task}
use Rattle.am_tasks.proofs.leave.leave.Goals as goal

pub returns : goal.returns
returns c =
    filter_same _ (λ (t : Task). not (is_empty t.instances)) _ (λ x b f k. search rules) _ _ c.retain.ensures.filtered
    ∙ ap (λ l. filter (λ (t : Task). not (is_empty t.instances)) l) c.leave_each.ensures
