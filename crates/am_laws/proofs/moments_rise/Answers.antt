use Rattle.am_laws.proofs.Moments.{moments_rise as law}
use Rattle.am_laws.proofs.moments_rise.Goals as goal

pub returns : goal.returns
returns c = law
