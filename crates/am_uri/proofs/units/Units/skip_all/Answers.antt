use Rattle.std.proofs.Common.{◌∙◌, sym, ap}
use Rattle.am_model.specs.Paths.{past_run}
use Rattle.am_uri.proofs.PathUnits.{first_off, run_on, run_ends}
use Rattle.am_uri.proofs.units.Units.skip_all.Goals as goal

pub loop-self-preserved : goal.loop-self-preserved
loop-self-preserved c =
    let here = first_off c.args.unit _ _ c.next.result (sym c.starts_with.ensures ∙ c.loop-self-test.true)
    c.next.ensures.unit in
    record {
      text = c.next.ensures.text;
      so_far = sym (run_on c.args.unit _) ∙ ap (past_run c.args.unit) (sym here) ∙ c.loop-self.invariant.so_far;
    }

pub returns-clause-skips : goal.returns-clause-skips
returns-clause-skips c =
    sym (run_ends c.args.unit _ (sym c.starts_with.ensures ∙ c.loop-self-test.false)) ∙ c.loop-self.invariant.so_far
