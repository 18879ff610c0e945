use Rattle.std.proofs.Common.{Some, sym, ap, ◌∙◌}
use Rattle.am_rows.specs.declared.Cell.TheVariants.{Words}
use Rattle.am_keeper_sql.proofs.Values.{text_cell}
use Rattle.am_keeper_sql.proofs.cells.value_of.Goals as goal

pub returns-in-Words : goal.returns-in-Words
returns-in-Words c = text_cell _ c.as_bytes.ensures.utf8 ∙ ap (λ t. Some (Words t))
    (c.as_bytes.ensures.value ∙ c.as_str.ensures) ∙ ap Some (sym c.in-Words.is)
