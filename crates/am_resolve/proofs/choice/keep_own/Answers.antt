use Rattle.std.proofs.Common.{◌∙◌, ap, rules}
use Rattle.std.specs.List.{filter}
use Rattle.std.proofs.lemmas.Fn.{filter_same}
use Rattle.am_model.specs.Links.{may_start}
use Rattle.am_resolve.proofs.choice.keep_own.Goals as goal

pub returns : goal.returns
returns c =
    c.new.ensures
    ∙ filter_same _ (may_start c.args.installed.now c.args.caller) _ (λ x b f k. search rules) _ _
    c.retain.ensures.filtered
    ∙ ap (filter (may_start c.args.installed.now c.args.caller)) c.into_items-hits.ensures
