use Rattle.std.proofs.Common.{◌∙◌, ap, rules}
use Rattle.std.specs.List.{filter}
use Rattle.std.proofs.lemmas.Fn.{filter_same}
use Rattle.am_types.specs.declared.resolve.Hit.{Hit}
use Rattle.am_model.specs.Texts.{is_same}
use Rattle.am_resolve.proofs.narrow.keep_package.Goals as goal

pub returns : goal.returns
returns c =
    c.new.ensures
    ∙ filter_same _ (λ (hit : Hit). is_same hit.component.«package» c.args.name.now) _ (λ x b f k. search rules) _ _
    c.retain.ensures.filtered
    ∙ ap (filter (λ (hit : Hit). is_same hit.component.«package» c.args.name.now)) c.into_items-hits.ensures
