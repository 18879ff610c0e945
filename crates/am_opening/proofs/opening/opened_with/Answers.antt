use Rattle.std.proofs.Common.{◌+◌, List, max, sym, ap, subst, ◌∙◌}
use Rattle.std.specs.List.{fold}
use Rattle.am_types.specs.declared.device.Package.{Package}
use Rattle.am_keeper.specs.declared.rows.PackageRow.{PackageRow}
use Rattle.am_history.specs.State.{uids_of}
use Rattle.am_history.specs.Opening.{after_rows}
use Rattle.am_opening.specs.Openings.{Refuses, state_of}
use Rattle.am_opening.proofs.Ordered.{opened_ordered}
use Rattle.am_opening.proofs.Completing.{opens_complete, opens_refuse}
use Rattle.am_opening.proofs.opening.opened_with.Goals as goal

pub returns-in-Ok-clause-opens : goal.returns-in-Ok-clause-opens
returns-in-Ok-clause-opens c =
    let greatest = c.greatest_of-greatest.result in
    opens_complete c.args.device c.args.rows.now greatest c.in-Ok.opened
    (c.greatest_of-greatest.ensures.greatest ∙ ap (λ (l : List Package). fold max 9999 (uids_of l)) c.as_slice.ensures)
    (ap (after_rows (state_of (record { device = c.args.device; next_uid = greatest + 1 }))) (sym c.as_slice-2.ensures)
    ∙ c.in-Ok.ensures.opens)
    c.opened_from.result c.opened_from.ensures

pub returns-in-Err-clause-opens : goal.returns-in-Err-clause-opens
returns-in-Err-clause-opens c =
    let greatest = c.greatest_of-greatest.result in
    opens_refuse c.args.device c.args.rows.now greatest c.in-Err.fault
    (c.greatest_of-greatest.ensures.greatest ∙ ap (λ (l : List Package). fold max 9999 (uids_of l)) c.as_slice.ensures)
    (subst (λ (l : List PackageRow). Refuses c.in-Err.fault (after_rows
    (state_of (record { device = c.args.device; next_uid = greatest + 1 })) l)) c.as_slice-2.ensures
    c.in-Err.ensures.opens)

pub opened_from-requires-clause-grants : goal.opened_from-requires-clause-grants
opened_from-requires-clause-grants c =
    (opened_ordered c.args.device (c.greatest_of-greatest.result + 1) c.as_slice-2.result.now c.in-Ok.opened
    c.requires.sound c.in-Ok.ensures.opens).grants

pub opened_from-requires-clause-links : goal.opened_from-requires-clause-links
opened_from-requires-clause-links c =
    (opened_ordered c.args.device (c.greatest_of-greatest.result + 1) c.as_slice-2.result.now c.in-Ok.opened
    c.requires.sound c.in-Ok.ensures.opens).links
