use Rattle.std.proofs.Common.{ap, length, ◌∙◌}
use Rattle.am_resolve.proofs.Tops.{top_first}
use Rattle.am_resolve.proofs.top.top_len.Goals as goal

pub returns-in-Some : goal.returns-in-Some
returns-in-Some c = c.len_of.ensures ∙ ap length (top_first c.args.hits.now c.in-Some.first.now c.in-Some.ensures.value)
