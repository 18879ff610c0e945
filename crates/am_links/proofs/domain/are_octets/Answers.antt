use Rattle.std.proofs.Common.{rules, tests, sym, ap, ◌∙◌, lit<}
use Rattle.std.specs.List.{list_all}
use Rattle.std.proofs.lemmas.Iterator.Splits.{YieldsList-from_str_split}
use Rattle.std.proofs.lemmas.Iterator.Search.{all_from_yields_List}
use Rattle.am_model.specs.Links.{is_octet}
use Rattle.am_links.proofs.Parts.{parts_are_cut}
use Rattle.am_links.proofs.domain.are_octets.Goals as goal

pub returns : goal.returns
returns c =
    all_from_yields_List is_octet _ _ _ c.all.ensures.ran
    (YieldsList-from_str_split 46 c.args.host.now (lit< tt) c.split.ensures.text c.split.ensures.has_more
    c.split.ensures.pattern)
    (λ x b q k. search (rules, tests))
    ∙ ap (list_all is_octet) (sym (parts_are_cut c.args.host.now))
