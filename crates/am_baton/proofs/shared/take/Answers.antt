use Rattle.std.proofs.Common.{ap, ◌∙◌}
use Rattle.am_baton.proofs.Moves.{takes}
use Rattle.am_baton.proofs.shared.take.Goals as goal

pub try_pop_as-requires-clause-rule : goal.try_pop_as-requires-clause-rule
try_pop_as-requires-clause-rule g c = takes _ _ (ap (λ v. v.live) c.loop.invariant.same ∙ c.requires.live)
