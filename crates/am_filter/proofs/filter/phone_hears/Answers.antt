use Rattle.std.proofs.Common.{◌∙◌, ap, sym, false}
use Rattle.std.proofs.lemmas.Result.{err_from_is_err_and}
use Rattle.std.specs.Option.{is_some}
use Rattle.am_types.specs.declared.device.Rules.TheVariants.{Android12}
use Rattle.am_types.specs.declared.filter.Why.TheVariants.{Action}
use Rattle.am_model.specs.Cuts.{cut_of_data}
use Rattle.am_model.specs.Filters.{unless, why}
use Rattle.am_filter.specs.Answers.{answer_of}
use Rattle.am_filter.proofs.Reasons.{first_counts, second_counts}
use Rattle.am_filter.proofs.filter.phone_hears.Goals as goal

pub returns-in_err-passes : goal.returns-in_err-passes
returns-in_err-passes c =
    let p = err_from_is_err_and c.from_residual.result c.from_residual.ensures.1 in
    rw (p.1, p.2) (first_counts (why Android12 c.args.filter.now c.args.intent.now false)
    (unless (is_some (cut_of_data c.args.filter.now c.args.intent.now.action c.args.intent.now.uri c.args.intent.now.mime)) Action)
    c.in_err-passes.field-0.0 (sym c.in_err-passes.was ∙ c.passes.ensures))

pub returns : goal.returns
returns c =
    c.unless.ensures
    ∙ ap (λ found. answer_of (unless found Action)) (c.is_some.ensures ∙ ap is_some c.cut_of_data.ensures)
    ∙ second_counts (why Android12 c.args.filter.now c.args.intent.now false)
    (unless (is_some (cut_of_data c.args.filter.now c.args.intent.now.action c.args.intent.now.uri c.args.intent.now.mime)) Action)
    c.in_ok-passes.field-0 (sym c.in_ok-passes.was ∙ c.passes.ensures)
