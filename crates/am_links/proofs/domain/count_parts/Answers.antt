use Rattle.std.proofs.Common.{ℕ, List, length, sym, ap, ◌∙◌, lit<}
use Rattle.std.proofs.lemmas.Iterator.Splits.{YieldsList-from_str_split}
use Rattle.std.proofs.lemmas.Iterator.Consumers.{count_from_yields_List}
use Rattle.am_links.proofs.Parts.{parts_are_cut}
use Rattle.am_links.proofs.domain.count_parts.Goals as goal

pub returns : goal.returns
returns c =
    count_from_yields_List _ _ c.count.ensures.ran
    (YieldsList-from_str_split 46 c.args.host.now (lit< tt) c.split.ensures.text c.split.ensures.has_more
    c.split.ensures.pattern)
    ∙ ap (length {A = List ℕ}) (sym (parts_are_cut c.args.host.now))
