use Rattle.am_explain.proofs.SentTo.{receivers_are_sent_to as law}
use Rattle.am_explain.proofs.laws.receivers_are_sent_to.Goals as goal

pub returns : goal.returns
returns c = law
