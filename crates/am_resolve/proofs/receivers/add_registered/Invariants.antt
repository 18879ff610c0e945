use Rattle.std.proofs.Common.{◌≡◌, ◌+◌, ◌++◌, ◌≤◌, drop}
use Rattle.std.specs.Option.{IsSome}
use Rattle.am_resolve.specs.Ranking.{ranked_of_registered}
use Rattle.am_resolve.proofs.receivers.add_registered.Given as goal

-- what was added so far, and what the receivers that are left add, is what all of them add; each took at most one test
abbrev pub invariant-loop-registration : goal.invariant-loop-registration
invariant-loop-registration g l = record {
  added : l.ranked.items ++ ranked_of_registered l.sent (drop l.registration-index l.registration-items)
      ≡ l.initial.ranked.items ++ ranked_of_registered l.sent l.registration-items;
  tests : l.steps ≤ l.initial.steps + l.registration-index;
  explicit : IsSome l.sent.intent.now.component → l.steps ≡ l.initial.steps;
}
