use Rattle.am_laws_access.proofs.Intents.{intents_are_admitted as law}
use Rattle.am_laws_access.proofs.intents_are_admitted.Goals as goal

pub returns : goal.returns
returns c = law
