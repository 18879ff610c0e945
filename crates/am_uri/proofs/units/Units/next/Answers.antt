use Rattle.std.proofs.Common.{◌∷◌, ◌∙◌, ap}
use Rattle.am_uri.specs.PathPieces.{units_from}
use Rattle.am_uri.proofs.PathUnits.{one_less, text_past, unit_first}
use Rattle.am_uri.proofs.units.Units.next.Goals as goal

pub returns-clause-text : goal.returns-clause-text
returns-clause-text c =
    text_past c.args.self.now.others c.next-self.new.self c.next-self.result c.requires c.next-self.ensures.steps

pub returns-clause-unit : goal.returns-clause-unit
returns-clause-unit c =
    ap (λ first. units_from first c.args.self.now.others) c.in_ok-unit.was
    ∙ ap (λ l. c.in_ok-unit.unit ∷ l)
    (unit_first c.args.self.now.others c.next-self.new.self c.next-self.result c.requires c.next-self.ensures.steps)

pub returns-clause-shorter : goal.returns-clause-shorter
returns-clause-shorter c =
    one_less _ _ c.in_ok-unit.unit
    (ap (λ first. units_from first c.args.self.now.others) c.in_ok-unit.was
    ∙ ap (λ l. c.in_ok-unit.unit ∷ l)
    (unit_first c.args.self.now.others c.next-self.new.self c.next-self.result c.requires c.next-self.ensures.steps))
