use Rattle.am_laws_access.proofs.AccessOfReceivers.{receivers_are_admitted as law}
use Rattle.am_laws_access.proofs.receivers_are_admitted.Goals as goal

pub returns : goal.returns
returns c = law
