use Rattle.std.proofs.Common.{ap}
use Rattle.am_baton.proofs.Moves.{merges}
use Rattle.am_baton.proofs.closing.join.Goals as goal

pub absorb-requires-clause-rule : goal.absorb-requires-clause-rule
absorb-requires-clause-rule g c =
    let mine = c.requires.idle in
    let theirs = c.desk.invariant.1 in
    merges _ _ _ _ (ap (λ v. v.live) mine) (ap (λ v. v.live) theirs) (ap (λ v. v.holds) mine) (ap (λ v. v.holds) theirs)
