use Rattle.std.proofs.Common.{◌∷◌, ◌∙◌, sym, ap}
use Rattle.am_model.specs.Paths.{UpTo, fits}
use Rattle.am_uri.proofs.PathUnits.{up_to_on, up_to_found}
use Rattle.am_uri.proofs.units.Units.skip_past.Goals as goal

pub loop-next-preserved : goal.loop-next-preserved
loop-next-preserved c = record {
  text = c.in-Some.ensures.text;
  so_far = λ others.
      sym (up_to_on c.args.unit c.in-Some.next _ others c.if-unit-next.false)
      ∙ ap (fits (UpTo c.args.unit ∷ others)) (sym c.in-Some.ensures.unit) ∙ c.loop-next.invariant.so_far others;
}

pub returns-then-unit-next-clause-skips : goal.returns-then-unit-next-clause-skips
returns-then-unit-next-clause-skips c = λ others.
    sym (c.loop-next.invariant.so_far others)
    ∙ ap (fits (UpTo c.args.unit ∷ others)) c.in-Some.ensures.unit
    ∙ up_to_found c.args.unit c.in-Some.next _ others c.if-unit-next.true
