use Rattle.std.proofs.Common.{ap}
use Rattle.am_baton.proofs.Moves.{takes, filled}
use Rattle.am_baton.proofs.Desks.{all_closed}
use Rattle.am_baton.proofs.closing.take_last.Goals as goal

pub pop_as-requires-clause-rule : goal.pop_as-requires-clause-rule
pop_as-requires-clause-rule g c =
    let mine = c.requires.idle in
    let live = ap (λ v. v.live) mine in
    (takes _ _ live, filled _ _ live (ap (λ v. v.holds) mine) c.requires.all)

pub returns : goal.returns
returns g c = rw c.into_inner.ensures (all_closed _ _ _ _ c.in-Some.ensures.rule)
