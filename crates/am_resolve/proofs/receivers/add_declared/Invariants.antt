use Rattle.std.proofs.Common.{◌≡◌, ◌++◌, drop}
use Rattle.am_resolve.specs.Ranking.{ranked_of_hits}
use Rattle.am_resolve.proofs.receivers.add_declared.Given as goal

-- what was added so far, and what the hits that are left add, is what all of them add
abbrev pub invariant-loop-hit : goal.invariant-loop-hit
invariant-loop-hit l =
    l.ranked.items ++ ranked_of_hits l.sent l.packages (drop l.hit-index l.hit-items)
    ≡ l.initial.ranked.items ++ ranked_of_hits l.sent l.packages l.hit-items
