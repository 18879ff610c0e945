use Rattle.am_laws_kept.proofs.Found.{entry_is_found}
use Rattle.am_laws_kept.proofs.step_is_found.Goals as goal

pub returns : goal.returns
returns c = entry_is_found
