use Rattle.am_laws_access.proofs.Adding.{entries_add_their_deeds as law}
use Rattle.am_laws_access.proofs.entries_add_their_deeds.Goals as goal

pub returns : goal.returns
returns c = law
