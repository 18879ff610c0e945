use Rattle.am_explain.proofs.Services.{services_are_started as law}
use Rattle.am_explain.proofs.laws.services_are_started.Goals as goal

pub returns : goal.returns
returns c = law
