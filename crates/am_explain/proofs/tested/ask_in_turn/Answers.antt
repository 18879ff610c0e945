use Rattle.std.proofs.Common.{◌≡◌, ◌+◌, ◌<◌, ◌++◌, Option, drop, length, sym, ap, ◌∙◌, append_assoc, arith}
use Rattle.am_types.specs.declared.filter.Why.{Why}
use Rattle.am_model.specs.Candidates.{finding_by, first_finding}
use Rattle.am_model.specs.Cuts.{unfound_why}
use Rattle.am_index.specs.Lookups.{search_of}
use Rattle.am_index.proofs.Findings.{first_joined}
use Rattle.am_model.specs.Accounts.{listed, reasons}
use Rattle.am_explain.specs.Tests.{with_finding}
use Rattle.am_explain.proofs.Reasons.{at_drop_item, joined-with_finding}
use Rattle.am_explain.proofs.tested.ask_in_turn.Goals as goal

pub loop-filter-preserved : goal.loop-filter-preserved
loop-filter-preserved g c =
    let search = search_of c.args.search.now in
    let items = c.as_slice-filter-items.result.now in
    let at = c.loop-filter.filter-index in
    let item = c.filter-item.result in
    let rest = drop (at + 1) items in
    let bound : at < length items = c.loop-filter-test.true in
    let reason = unfound_why search.rules item search.intent search.need_default in
    let told = reasons search.rules search.intent search.need_default in
    record {
      first = ap (λ first. first_joined first (first_finding search rest)) c.with_finding-first.ensures
          ∙ ap (λ (r : Option Why). first_joined (with_finding r (finding_by search item) c.loop-filter.first)
          (first_finding search rest)) c.test-reason.ensures.reason
          ∙ joined-with_finding reason (finding_by search item) c.loop-filter.first (first_finding search rest)
          ∙ ap (first_joined c.loop-filter.first) (sym (at_drop_item (first_finding search) items at item bound
          c.filter-item.is))
          ∙ c.loop-filter.invariant.first;
      reasons = ap (λ l. l ++ told rest) c.in_ok-add_reason.ensures
          ∙ ap (λ (r : Option Why). (c.loop-filter.reasons.items ++ listed r) ++ told rest)
          c.test-reason.ensures.reason
          ∙ append_assoc c.loop-filter.reasons.items (listed reason) (told rest)
          ∙ ap (λ l. c.loop-filter.reasons.items ++ l) (sym (at_drop_item told items at item bound c.filter-item.is))
          ∙ c.loop-filter.invariant.reasons;
      tests = omega (arith, c.test-reason.ensures.tests);
    }
