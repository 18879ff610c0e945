use Rattle.am_laws_kept.proofs.Found.{kept_in_order}
use Rattle.am_laws_kept.proofs.rows_stay_in_order.Goals as goal

pub returns : goal.returns
returns c = kept_in_order
