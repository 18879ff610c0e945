use Rattle.am_laws_kept.proofs.Found.{rows_follow_history}
use Rattle.am_laws_kept.proofs.rows_follow.Goals as goal

pub returns : goal.returns
returns c = rows_follow_history
