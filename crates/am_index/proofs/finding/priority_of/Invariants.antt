use Rattle.std.proofs.Common.{◌≡◌, ◌+◌, drop, count_by}
use Rattle.am_types.specs.declared.device.Rules.TheVariants.{Profile}
use Rattle.am_model.specs.Candidates.{priority_of}
use Rattle.am_index.specs.Groups.{in_group}
use Rattle.am_index.specs.Lookups.{search_by}
use Rattle.am_index.proofs.Priorities.{joined}
use Rattle.am_index.proofs.finding.priority_of.Given as goal

-- the best so far, joined with what the filters that are left give, is what all of them give; and so are the tests
abbrev pub invariant-loop-filter : goal.invariant-loop-filter
invariant-loop-filter g l = record {
  priority : joined l.best (priority_of (search_by Profile l.search) (drop l.filter-index l.filter-items))
      ≡ priority_of (search_by Profile l.search) l.filter-items;
  tests : l.steps + count_by (in_group l.search.intent.now) (drop l.filter-index l.filter-items)
      ≡ l.initial.steps + count_by (in_group l.search.intent.now) l.filter-items;
}
