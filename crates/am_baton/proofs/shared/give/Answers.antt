use Rattle.std.proofs.Common.{ap}
use Rattle.am_baton.proofs.Moves.{gives_back, empty}
use Rattle.am_baton.proofs.shared.give.Goals as goal

pub push_as-requires-clause-rule : goal.push_as-requires-clause-rule
push_as-requires-clause-rule g c =
    let held = c.requires.holds in
    let holds = ap (λ v. v.holds) held in
    let live = ap (λ v. v.live) held in (
      gives_back _ _ _ _ holds live (ap (λ v. v.ended) held) c.requires.origin c.requires.desks c.requires.adds,
      empty _ _ holds live,
    )
