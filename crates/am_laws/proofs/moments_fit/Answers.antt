use Rattle.am_laws.proofs.Moments.{moments_fit as law}
use Rattle.am_laws.proofs.moments_fit.Goals as goal

pub returns : goal.returns
returns c = law
