use Rattle.std.proofs.Common.{◌∙◌}
use Rattle.am_opening.proofs.Finding.{lowered_is}
use Rattle.am_opening.proofs.rows.is_lowered.Goals as goal

pub returns : goal.returns
returns c = c.all_lowered.ensures ∙ lowered_is c.args.text.now
