use Rattle.am_laws_access.proofs.AccessOfComponents.{services_are_admitted as law}
use Rattle.am_laws_access.proofs.services_are_admitted.Goals as goal

pub returns : goal.returns
returns c = law
