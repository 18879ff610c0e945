use Rattle.std.proofs.Common.{◌≡◌, ◌+◌, ◌<◌, ◌++◌, ◌&&◌, ◌||◌, Bool, Option, Some, cond, drop, length, sym, ap, ◌∙◌, append_assoc, arith}
use Rattle.std.specs.Prelude.{is_none}
use Rattle.std.specs.List.{list_any}
use Rattle.am_types.specs.declared.filter.Why.{Why}
use Rattle.am_model.specs.Candidates.{Search, counted_priority, greatest, priority_of}
use Rattle.am_model.specs.Cuts.{unfound_why}
use Rattle.am_model.specs.Filters.{is_empty}
use Rattle.am_index.specs.Lookups.{search_of}
use Rattle.am_index.proofs.Priorities.{joined}
use Rattle.am_model.specs.Accounts.{listed, reasons}
use Rattle.am_explain.specs.Tests.{takes_all_hosts, with_priority}
use Rattle.am_explain.proofs.Reasons.{at_drop_item, joined-with_priority, or_assoc, passes_is}
use Rattle.am_explain.proofs.tested.ask_all.Goals as goal

pub loop-filter-preserved : goal.loop-filter-preserved
loop-filter-preserved g c =
    let search = search_of c.args.search.now in
    let items = c.as_slice-filter-items.result.now in
    let at = c.loop-filter.filter-index in
    let item = c.filter-item.result in
    let rest = drop (at + 1) items in
    let bound : at < length items = c.loop-filter-test.true in
    let reason = unfound_why search.rules item search.intent search.need_default in
    let told = reasons search.rules search.intent search.need_default in
    record {
      best = ap (λ best. joined best (priority_of search rest)) c.with_priority-best.ensures
          ∙ ap (λ (r : Option Why). joined (with_priority r (counted_priority search.kind item.priority)
          c.loop-filter.best) (priority_of search rest)) c.test-reason.ensures.reason
          ∙ joined-with_priority reason (counted_priority search.kind item.priority) c.loop-filter.best
          (priority_of search rest)
          ∙ ap (λ (b : Bool). joined c.loop-filter.best (cond b
          (Some (greatest (counted_priority search.kind item.priority) (priority_of search rest)))
          (priority_of search rest))) (sym (passes_is search c.requires item))
          ∙ ap (joined c.loop-filter.best) (sym (at_drop_item (priority_of search) items at item bound
          c.filter-item.is))
          ∙ c.loop-filter.invariant.best;
      any_host = ap (λ b. b || list_any (takes_all_hosts search) rest) c.or_takes_all_hosts-any_host.ensures
          ∙ ap (λ (r : Option Why). (c.loop-filter.any_host || (is_none r && is_empty item.authorities)) ||
          list_any (takes_all_hosts search) rest) c.test-reason.ensures.reason
          ∙ or_assoc c.loop-filter.any_host (takes_all_hosts search item) (list_any (takes_all_hosts search) rest)
          ∙ ap (λ b. c.loop-filter.any_host || b) (sym (at_drop_item (list_any (takes_all_hosts search)) items at
          item bound c.filter-item.is))
          ∙ c.loop-filter.invariant.any_host;
      reasons = ap (λ l. l ++ told rest) c.in_ok-add_reason.ensures
          ∙ ap (λ (r : Option Why). (c.loop-filter.reasons.items ++ listed r) ++ told rest)
          c.test-reason.ensures.reason
          ∙ append_assoc c.loop-filter.reasons.items (listed reason) (told rest)
          ∙ ap (λ l. c.loop-filter.reasons.items ++ l) (sym (at_drop_item told items at item bound c.filter-item.is))
          ∙ c.loop-filter.invariant.reasons;
      tests = omega (arith, c.test-reason.ensures.tests);
    }
