use Rattle.std.proofs.Common.{◌≡◌, ◌+◌, ◌++◌, ◌≤◌, drop}
use Rattle.am_model.specs.Candidates.{first_finding}
use Rattle.am_index.specs.Lookups.{search_of}
use Rattle.am_index.proofs.Findings.{first_joined}
use Rattle.am_model.specs.Accounts.{reasons}
use Rattle.am_explain.proofs.tested.ask_in_turn.Given as goal

-- what was gathered so far, with what the filters that are left give, is what all of them give; each was one test
abbrev pub invariant-loop-filter : goal.invariant-loop-filter
invariant-loop-filter g l = record {
  first : first_joined l.first (first_finding (search_of l.search) (drop l.filter-index l.filter-items))
      ≡ first_finding (search_of l.search) l.filter-items;
  reasons : l.reasons.items ++ reasons l.search.rules l.search.intent.now l.search.need_default
      (drop l.filter-index l.filter-items)
      ≡ reasons l.search.rules l.search.intent.now l.search.need_default l.filter-items;
  tests : l.steps ≤ l.initial.steps + l.filter-index;
}
