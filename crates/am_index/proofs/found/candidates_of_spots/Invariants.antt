use Rattle.std.proofs.Common.{◌≡◌, ◌+◌, ◌++◌, ◌≤◌, drop}
use Rattle.am_index.specs.Lookups.{candidates_of_spots, cost_of_spots, search_of}
use Rattle.am_index.proofs.found.candidates_of_spots.Given as goal

-- what was found so far, and what the spots that are left give, is what all of them give; and so are the tests
abbrev pub invariant-loop-spot : goal.invariant-loop-spot
invariant-loop-spot g l = record {
  found : l.found.items ++ candidates_of_spots (search_of l.search) l.packages (drop l.spot-index l.spots)
      ≡ candidates_of_spots (search_of l.search) l.packages l.spots;
  tests : l.steps + cost_of_spots l.packages l.search.intent.now (drop l.spot-index l.spots)
      ≡ l.initial.steps + cost_of_spots l.packages l.search.intent.now l.spots;
  least : l.initial.steps ≤ l.steps;
}
