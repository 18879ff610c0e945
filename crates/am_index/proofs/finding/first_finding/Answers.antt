use Rattle.std.proofs.Common.{Some, ◌∷◌, ◌+◌, ◌∙◌, ap, drop, sym}
use Rattle.std.proofs.lemmas.List.{drop_more}
use Rattle.am_types.specs.declared.device.Rules.TheVariants.{Android12}
use Rattle.am_model.specs.Candidates.{first_finding}
use Rattle.am_index.specs.Groups.{in_group}
use Rattle.am_index.specs.Lookups.{earlier, search_by}
use Rattle.am_index.proofs.Findings.{first_found, first_joined, first_unfound, one_counted}
use Rattle.am_index.proofs.finding.first_finding.Goals as goal
use Rattle.am_index.proofs.finding.first_finding.Goals.{then-is_found, else-is_found}

pub loop-filter-preserved : goal.loop-filter-preserved
loop-filter-preserved g c =
    let filters = c.as_slice-filter-items.result.now in
    let filter = c.filter-item.result in
    let first = c.loop-filter.first in
    let search = search_by Android12 c.args.search.now in
    let rest = drop (c.loop-filter.filter-index + 1) filters in
    let here = drop_more filters c.loop-filter.filter-index filter c.loop-filter-test.true
    ∙ ap (λ f. f ∷ rest) (sym c.filter-item.is) in
    let so_far = ap (λ l. first_joined first (first_finding search l)) (sym here) ∙ c.loop-filter.invariant.finding in
    record {
      finding = elim c.if-is_found.branch [
        | then-is_found w ↦
            ap (λ f. first_joined f (first_finding search rest))
            (w.first-is ∙ ap Some (w.earlier.ensures ∙ ap (earlier first) w.finding_by.ensures))
            ∙ first_found search filter rest first (sym c.is_found.ensures.finds ∙ w.if-is_found.true)
            ∙ so_far
        | else-is_found w ↦
            ap (λ f. first_joined f (first_finding search rest)) w.first-is
            ∙ first_unfound search filter rest first (sym c.is_found.ensures.finds ∙ w.if-is_found.false)
            ∙ so_far
      ];
      tests = one_counted (in_group c.args.search.now.intent.now) filter _ rest _ _ _ _ here c.is_found.ensures.tests
          c.loop-filter.invariant.tests;
    }
