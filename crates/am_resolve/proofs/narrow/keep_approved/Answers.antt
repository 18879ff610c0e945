use Rattle.std.proofs.Common.{◌∙◌, ap, rules}
use Rattle.std.specs.List.{filter}
use Rattle.std.proofs.lemmas.Fn.{filter_same}
use Rattle.am_model.specs.Targets.{is_approved}
use Rattle.am_resolve.proofs.narrow.keep_approved.Goals as goal

pub returns : goal.returns
returns c =
    c.new.ensures
    ∙ filter_same _ (is_approved c.args.links.now c.args.host.now) _ (λ x b f k. search rules) _ _
    c.retain.ensures.filtered
    ∙ ap (filter (is_approved c.args.links.now c.args.host.now)) c.into_items-hits.ensures
