use Rattle.std.proofs.Common.{inl, inr, refl}
use Rattle.am_machine.proofs.Kept.{otherwise, whatever}
use Rattle.am_machine.proofs.keeping.make.Goals as goal

-- what can't be prepared isn't put
pub returns-in-Err-clause-at_most : goal.returns-in-Err-clause-at_most
returns-in-Err-clause-at_most g c = inl refl

-- and what isn't kept was put once
pub returns-in-Err-asked-clause-asks : goal.returns-in-Err-asked-clause-asks
returns-in-Err-asked-clause-asks g c = whatever c.unkept.result c.put-asked.ensures.puts

pub returns-in-Err-asked-clause-at_most : goal.returns-in-Err-asked-clause-at_most
returns-in-Err-asked-clause-at_most g c = otherwise c.unkept.result (inr c.put-asked.ensures.puts)
