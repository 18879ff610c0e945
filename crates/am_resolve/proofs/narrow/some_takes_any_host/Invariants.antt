use Rattle.std.proofs.Common.{◌≡◌, ◌+◌, ◌≤◌, drop, count_by}
use Rattle.std.specs.List.{list_any}
use Rattle.am_model.specs.Targets.{takes_any_host}
use Rattle.am_index.specs.Groups.{in_group}
use Rattle.am_resolve.proofs.narrow.some_takes_any_host.Given as goal

-- the filters that are left give what all of them give, within the tests that are left
abbrev pub invariant-loop-filter : goal.invariant-loop-filter
invariant-loop-filter g l = record {
  takes : list_any (takes_any_host l.intent) (drop l.filter-index l.filter-items)
      ≡ list_any (takes_any_host l.intent) l.filters;
  tests : l.steps + count_by (in_group l.intent) (drop l.filter-index l.filter-items) ≤ l.initial.steps + count_by
      (in_group l.intent) l.filters;
}
