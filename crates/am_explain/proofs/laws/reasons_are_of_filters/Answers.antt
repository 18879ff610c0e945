use Rattle.am_explain.proofs.OfFilters.{reasons_are_of_filters as law}
use Rattle.am_explain.proofs.laws.reasons_are_of_filters.Goals as goal

pub returns : goal.returns
returns c = law
