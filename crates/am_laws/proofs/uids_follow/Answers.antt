use Rattle.am_laws.proofs.Uids.{uids_follow as law}
use Rattle.am_laws.proofs.uids_follow.Goals as goal

pub returns : goal.returns
returns c = law
