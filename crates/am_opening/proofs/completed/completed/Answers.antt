use Rattle.std.proofs.Common.{◌+◌, ◌∙◌, ap}
use Rattle.am_opening.specs.declared.opened.Opened.{Opened}
use Rattle.am_opening.specs.Openings.{state_of}
use Rattle.am_opening.proofs.Completing.{completed_is}
use Rattle.am_opening.proofs.completed.completed.Goals as goal

pub returns : goal.returns
returns c =
    let next = c.of_rows.result in
    ap (λ (o : Opened). state_of (record { device = o.device; next_uid = next + 1 })) c.in_ok-opened.ensures
    ∙ completed_is c.args.opened c.args.greatest next c.args.rows.now c.of_rows.ensures.greatest
