use Rattle.std.proofs.Common.{◌∙◌, sym, ap}
use Rattle.am_model.specs.Paths.{fits}
use Rattle.am_uri.proofs.PathUnits.{run_fits}
use Rattle.am_uri.proofs.units.Units.skip_run.Goals as goal

pub returns-clause-skips : goal.returns-clause-skips
returns-clause-skips c = λ others.
    run_fits c.args.unit _ others (sym c.is_empty.ensures ∙ c.if-is_empty.false)
    ∙ ap (fits others) (sym c.skip_all.ensures.skips)
