use Rattle.std.proofs.Common.{nat_le, ap}
use Rattle.std.proofs.lemmas.Iterator.{YieldsList-from_chars}
use Rattle.std.proofs.lemmas.Iterator.Consumers.{count_from_yields_List}
use Rattle.am_links.proofs.domain.has_two_characters.Goals as goal

pub returns : goal.returns
returns c = ap (nat_le 2) (count_from_yields_List _ _ c.count.ensures.ran
    (YieldsList-from_chars c.args.part.now c.utf8.part c.chars.ensures.rest))
