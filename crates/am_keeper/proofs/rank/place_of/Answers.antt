use Rattle.std.proofs.Common.{IfErr, IfOk, rules}
use Rattle.std.proofs.lemmas.Fn.{always_returns_same}
use Rattle.am_keeper.specs.Places.{IsGapFor, IsPlaceOf}
use Rattle.am_keeper.proofs.Puts.{searched}
use Rattle.am_keeper.proofs.rank.place_of.Goals as goal
use Rattle.am_keeper.proofs.rank.place_of.Given.{Over}
use Rattle.am_keeper.proofs.rank.place_of.Goals.{After-binary_search_by}

-- the binary search ends at the row that ties, or at the gap
ends_at : (g : Over) (c : After-binary_search_by g)
    → IfOk c.binary_search_by.result (IsPlaceOf g.T.Ranked.ranking.order c.args.row.now c.args.rows.now)
    × IfErr c.binary_search_by.result (IsGapFor g.T.Ranked.ranking.order c.args.row.now c.args.rows.now)
ends_at g c =
    let facts = c.binary_search_by.ensures in
    let by_rank = facts.position (λ kept. g.T.Ranked.ranking.order kept c.args.row.now)
    (always_returns_same _ _ _ (λ a r h called. search rules)) in
    searched g.T.Ranked.ranking.order g.T.Ranked.ranking.total c.args.row.now c.args.rows.now c.requires c.binary_search_by.result
    facts.bound by_rank

pub returns-clause-found : goal.returns-clause-found
returns-clause-found g c = (ends_at g (goal.at.returns-clause-found g c).After-binary_search_by).0

pub returns-clause-absent : goal.returns-clause-absent
returns-clause-absent g c = (ends_at g (goal.at.returns-clause-absent g c).After-binary_search_by).1
