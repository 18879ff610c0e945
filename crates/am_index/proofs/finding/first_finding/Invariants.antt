use Rattle.std.proofs.Common.{◌≡◌, ◌+◌, drop, count_by}
use Rattle.am_types.specs.declared.device.Rules.TheVariants.{Android12}
use Rattle.am_model.specs.Candidates.{first_finding}
use Rattle.am_index.specs.Groups.{in_group}
use Rattle.am_index.specs.Lookups.{search_by}
use Rattle.am_index.proofs.Findings.{first_joined}
use Rattle.am_index.proofs.finding.first_finding.Given as goal

-- the first so far, joined with what the filters that are left give, is what all of them give; and so are the tests
abbrev pub invariant-loop-filter : goal.invariant-loop-filter
invariant-loop-filter g l = record {
  finding : first_joined l.first (first_finding (search_by Android12 l.search) (drop l.filter-index l.filter-items))
      ≡ first_finding (search_by Android12 l.search) l.filter-items;
  tests : l.steps + count_by (in_group l.search.intent.now) (drop l.filter-index l.filter-items)
      ≡ l.initial.steps + count_by (in_group l.search.intent.now) l.filter-items;
}
