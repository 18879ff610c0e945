use Rattle.am_laws.proofs.Refusals.{refusals_change_nothing as law}
use Rattle.am_laws.proofs.refusals_change_nothing.Goals as goal

pub returns : goal.returns
returns c = law
