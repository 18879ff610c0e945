use Rattle.std.proofs.Common.{◌≡◌, ◌+◌, ◌++◌, ◌≤◌, drop}
use Rattle.std.specs.List.{filter}
use Rattle.am_model.specs.Targets.{is_general}
use Rattle.am_resolve.specs.Narrowing.{cost_of}
use Rattle.am_resolve.proofs.narrow.keep_general.Given as goal

-- those kept so far and those of the rest are those of all, within the tests that are left
abbrev pub invariant-loop-hit : goal.invariant-loop-hit
invariant-loop-hit g l = record {
  kept : l.left.items ++ filter (is_general l.packages l.intent) (drop l.hit-index l.hit-items)
      ≡ filter (is_general l.packages l.intent) l.found;
  tests : l.steps + cost_of l.packages l.intent (drop l.hit-index l.hit-items) ≤ l.initial.steps + cost_of l.packages
      l.intent l.found;
}
