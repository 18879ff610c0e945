use Rattle.am_laws.proofs.Faults.{act_never_faults}
use Rattle.am_laws.proofs.no_request_faults.Goals as goal

pub returns : goal.returns
returns c = act_never_faults
