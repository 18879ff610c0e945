-- The outcome of testing the filters of a component against an intent, gathered.
use Rattle.std.specs.Prelude.{ℤ, Bool, false, ◌&&◌, List, Option, Some, None}
use Rattle.std.specs.List.{list_any}
use Rattle.am_types.specs.declared.device.Rules.{Rules}
use Rattle.am_types.specs.declared.device.Rules.TheVariants.{Profile, Android12}
use Rattle.am_types.specs.declared.filter.Filter.{Filter}
use Rattle.am_types.specs.declared.filter.Why.{Why}
use Rattle.am_types.specs.declared.resolve.Finding.{Finding}
use Rattle.am_model.specs.Candidates.{Search, finding_in, greatest}
use Rattle.am_model.specs.Cuts.{finds}
use Rattle.am_model.specs.Filters.{is_empty}
use Rattle.am_model.specs.Accounts.{reasons}
use Rattle.am_index.specs.Lookups.{earlier}
use Rattle.am_explain.specs.declared.tested.Tested.{Tested}
use Rattle.am_explain.specs.declared.tested.Tested.TheVariants.{Passed, Failed}

-- the intent finds the filter, which lists no authority
abbrev pub takes_all_hosts : Search → Filter → Bool
takes_all_hosts search filter =
    finds search.rules filter search.intent search.need_default && is_empty filter.authorities

-- the best priority so far, or that of one more filter, if it is passed and its priority is greater
abbrev pub with_priority : Option Why → ℤ → Option ℤ → Option ℤ
with_priority None priority best = Some (greatest priority best)
with_priority (Some reason) priority best = best

-- the first finding so far, or that by one more filter, if it is found and comes first
abbrev pub with_finding : Option Why → Finding → Option Finding → Option Finding
with_finding None finding first = Some (earlier first finding)
with_finding (Some reason) finding first = first

-- whether one of the filters that the intent passes lists no authority, which only the profile asks
abbrev pub takes_any_host_in : Rules → Search → List Filter → Bool
takes_any_host_in Profile search filters = list_any (takes_all_hosts search) filters
takes_any_host_in Android12 search filters = false

-- how the component is found and whether one of its filters takes any host, or the reasons if it isn't found
abbrev pub tested_with : Option Finding → Bool → List Why → Tested
tested_with (Some finding) any_host reasons = Passed finding any_host
tested_with None any_host reasons = Failed reasons

-- the outcome of testing the filters against the intent
abbrev pub tested_of : Search → List Filter → Tested
tested_of search filters =
    tested_with (finding_in search.rules search filters) (takes_any_host_in search.rules search filters)
    (reasons search.rules search.intent search.need_default filters)
