use Rattle.std.proofs.Common.{◌∙◌, ap, rules}
use Rattle.std.specs.List.{filter}
use Rattle.std.proofs.lemmas.Fn.{filter_same}
use Rattle.am_model.specs.Links.{is_left}
use Rattle.am_links.specs.Led.{led_by}
use Rattle.am_links.proofs.leading.keep_left.Goals as goal

pub returns : goal.returns
returns c =
    c.new.ensures
    ∙ filter_same _ (is_left (led_by c.args.leads.now)) _ (λ x b f k. search rules) _ _ c.retain.ensures.filtered
    ∙ ap (filter (is_left (led_by c.args.leads.now))) c.into_items-candidates.ensures
