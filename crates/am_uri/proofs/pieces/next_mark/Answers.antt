use Rattle.std.proofs.Common.{◌∷◌, ◌∙◌, sym, ap, false}
use Rattle.am_model.specs.Paths.{phone_marks_of}
use Rattle.am_uri.specs.PathPieces.{units_of}
use Rattle.am_uri.proofs.PathPieces.{plain_unit, literal_unit, literal_end}
use Rattle.am_uri.proofs.pieces.next_mark.Goals as goal

pub returns-then-unit-ne-BACKSLASH-clause-mark : goal.returns-then-unit-ne-BACKSLASH-clause-mark
returns-then-unit-ne-BACKSLASH-clause-mark c =
    ap phone_marks_of c.in_ok-unit.ensures.unit ∙ plain_unit c.in_ok-unit.unit _ c.if-unit-ne-BACKSLASH.true

pub returns-in-None-clause-mark : goal.returns-in-None-clause-mark
returns-in-None-clause-mark c =
    ap phone_marks_of (c.in_ok-unit.ensures.unit ∙ ap (λ l. c.in_ok-unit.unit ∷ l) c.in-None.ensures.unit.0)
    ∙ literal_end c.in_ok-unit.unit c.if-unit-ne-BACKSLASH.false
    ∙ ap (λ l. record { character = 0; plain = false } ∷ phone_marks_of l) (sym c.in-None.ensures.unit.1)

pub returns-in-Some-clause-mark : goal.returns-in-Some-clause-mark
returns-in-Some-clause-mark c =
    ap phone_marks_of (c.in_ok-unit.ensures.unit ∙ ap (λ l. c.in_ok-unit.unit ∷ l) c.in-Some.ensures.unit)
    ∙ literal_unit c.in_ok-unit.unit c.in-Some.unit (units_of c.next-2.new.self) c.if-unit-ne-BACKSLASH.false
