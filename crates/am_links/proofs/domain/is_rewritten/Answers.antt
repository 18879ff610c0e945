use Rattle.std.specs.Prelude.{codes}
use Rattle.std.proofs.lemmas.Str.Pattern.{starts_text}
use Rattle.am_links.proofs.domain.is_rewritten.Goals as goal

pub returns : goal.returns
returns c = starts_text c.starts_with.result (codes "xn--") c.args.part.now c.starts_with.ensures.cases
