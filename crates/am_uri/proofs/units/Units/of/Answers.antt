use Rattle.std.proofs.Common.{sym, ap, ◌∙◌, ◌++◌}
use Rattle.std.specs.Str.Iter.{encode_utf16_rest}
use Rattle.am_model.specs.Paths.{units}
use Rattle.am_uri.proofs.PathUnits.{text_past, unit_first}
use Rattle.am_uri.proofs.units.Units.of.Goals as goal

pub returns-clause-text : goal.returns-clause-text
returns-clause-text c =
    text_past c.encode_utf16-others.result c.next-first.new.self c.next-first.result
    (rw c.encode_utf16-others.ensures.text c.utf8.text) c.next-first.ensures.steps

pub returns-clause-units : goal.returns-clause-units
returns-clause-units c =
    sym (unit_first c.encode_utf16-others.result c.next-first.new.self c.next-first.result
    (rw c.encode_utf16-others.ensures.text c.utf8.text) c.next-first.ensures.steps)
    ∙ ap (λ l. l ++ units (encode_utf16_rest c.encode_utf16-others.result)) c.encode_utf16-others.ensures.pending
    ∙ ap units c.encode_utf16-others.ensures.text
