use Rattle.std.proofs.Common.{◌≡◌, ◌+◌, Option, Bor, drop, option_copied, sym, subst, ◌∙◌}
use Rattle.std.specs.List.{filter}
use Rattle.am_types.specs.declared.resolve.Hit.{Hit}
use Rattle.am_model.specs.Links.{last_of, takes_link}
use Rattle.am_links.proofs.Lasts.{joined_last, passed, taken}
use Rattle.am_links.proofs.approvals.last_taking.Goals as goal
use Rattle.am_links.proofs.approvals.last_taking.Goals.{then-takes_link, else-takes_link}

pub loop-candidate-preserved : goal.loop-candidate-preserved
loop-candidate-preserved c =
    let takes = takes_link c.args.installed.now c.args.host.now in
    let items = c.as_slice-candidate-items.result.now in
    let at = c.loop-candidate.candidate-index in
    let item = c.candidate-item in
    let before = option_copied c.loop-candidate.last in
    let Kept : Option (Bor Hit) → Type 0 = λ last.
    joined_last (option_copied last) (last_of (filter takes (drop (at + 1) items))) ≡ last_of (filter takes items) in
    elim c.if-takes_link.branch [
      | then-takes_link w ↦
          subst Kept (sym w.last-is)
          (taken takes items at item.result c.loop-candidate-test.true item.is before w.later_of.result.now
          (sym c.takes_link.ensures ∙ w.if-takes_link.true) w.later_of.ensures
          ∙ c.loop-candidate.invariant)
      | else-takes_link w ↦
          subst Kept (sym w.last-is)
          (passed takes items at item.result c.loop-candidate-test.true item.is before
          (sym c.takes_link.ensures ∙ w.if-takes_link.false)
          ∙ c.loop-candidate.invariant)
    ]
