use Rattle.std.proofs.Common.{◌∙◌, ap, rules}
use Rattle.std.specs.List.{filter}
use Rattle.std.proofs.lemmas.Fn.{filter_same}
use Rattle.am_types.specs.declared.resolve.Hit.{Hit}
use Rattle.am_model.specs.Visibility.{sees}
use Rattle.am_visible.proofs.shown.keep_seen.Goals as goal

pub returns : goal.returns
returns c =
    c.new.ensures
    ∙ filter_same _ (λ (hit : Hit). sees c.args.board.now c.args.queries.now c.args.caller hit.uid) _
    (λ x b f k. search rules) _ _ c.retain.ensures.filtered
    ∙ ap (filter (λ (hit : Hit). sees c.args.board.now c.args.queries.now c.args.caller hit.uid))
    c.into_items-hits.ensures
