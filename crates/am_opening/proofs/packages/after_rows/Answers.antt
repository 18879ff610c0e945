use Rattle.std.proofs.Common.{◌<◌, subst}
use Rattle.std.proofs.lemmas.List.Elements.{All-more}
use Rattle.am_keeper.specs.declared.rows.PackageRow.{PackageRow}
use Rattle.am_history.specs.Packages.{no_uid}
use Rattle.am_opening.specs.Openings.{state_of}
use Rattle.am_opening.proofs.Refused.{refused_at, taken_at}
use Rattle.am_opening.proofs.packages.after_rows.Goals as goal

pub returns-in-Err-clause-opens : goal.returns-in-Err-clause-opens
returns-in-Err-clause-opens c =
    refused_at (state_of c.args.opened) (state_of c.loop-row.opened) c.args.rows.now c.loop-row.row-index
    c.row-item.result
    c.loop-row-test.true c.row-item.is c.loop-row.invariant.opens c.in-Err.fault c.in-Err.ensures.opens

pub loop-row-preserved : goal.loop-row-preserved
loop-row-preserved c = record {
  opens =
      taken_at (state_of c.args.opened) (state_of c.loop-row.opened) (state_of c.in-Ok.more) c.args.rows.now
      c.loop-row.row-index c.row-item.result
      c.loop-row-test.true c.row-item.is c.loop-row.invariant.opens c.in-Ok.ensures.opens;
  given =
      All-more (λ (row : PackageRow). row.uid < no_uid) c.args.rows.now c.loop-row.row-index c.row-item.result
      c.loop-row-test.true c.loop-row.invariant.given
      (subst (λ (row : PackageRow). row.uid < no_uid) c.row-item.is c.in-Ok.ensures.given);
}
