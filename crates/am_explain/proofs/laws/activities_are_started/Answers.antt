use Rattle.am_explain.proofs.Activities.{activities_are_started as law}
use Rattle.am_explain.proofs.laws.activities_are_started.Goals as goal

pub returns : goal.returns
returns c = law
