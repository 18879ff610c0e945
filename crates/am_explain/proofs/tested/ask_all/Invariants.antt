use Rattle.std.proofs.Common.{◌≡◌, ◌+◌, ◌++◌, ◌≤◌, ◌||◌, drop}
use Rattle.std.specs.List.{list_any}
use Rattle.am_model.specs.Candidates.{priority_of}
use Rattle.am_index.specs.Lookups.{search_of}
use Rattle.am_index.proofs.Priorities.{joined}
use Rattle.am_model.specs.Accounts.{reasons}
use Rattle.am_explain.specs.Tests.{takes_all_hosts}
use Rattle.am_explain.proofs.tested.ask_all.Given as goal

-- what was gathered so far, with what the filters that are left give, is what all of them give; each was one test
abbrev pub invariant-loop-filter : goal.invariant-loop-filter
invariant-loop-filter g l = record {
  best : joined l.best (priority_of (search_of l.search) (drop l.filter-index l.filter-items))
      ≡ priority_of (search_of l.search) l.filter-items;
  any_host : l.any_host || list_any (takes_all_hosts (search_of l.search)) (drop l.filter-index l.filter-items)
      ≡ list_any (takes_all_hosts (search_of l.search)) l.filter-items;
  reasons : l.reasons.items ++ reasons l.search.rules l.search.intent.now l.search.need_default
      (drop l.filter-index l.filter-items)
      ≡ reasons l.search.rules l.search.intent.now l.search.need_default l.filter-items;
  tests : l.steps ≤ l.initial.steps + l.filter-index;
}
