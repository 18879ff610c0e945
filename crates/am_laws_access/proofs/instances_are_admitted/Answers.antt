use Rattle.am_laws_access.proofs.AccessOfComponents.{instances_are_admitted as law}
use Rattle.am_laws_access.proofs.instances_are_admitted.Goals as goal

pub returns : goal.returns
returns c = law
