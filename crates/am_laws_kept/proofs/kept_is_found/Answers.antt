use Rattle.am_laws_kept.proofs.Found.{history_is_found}
use Rattle.am_laws_kept.proofs.kept_is_found.Goals as goal

pub returns : goal.returns
returns c = history_is_found
