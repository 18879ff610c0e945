use Rattle.std.proofs.Common.{Some, [], ◌∷◌, ◌++◌, take, sym, ap, ◌∙◌}
use Rattle.std.proofs.lemmas.List.{map-append, take_more}
use Rattle.sqlite.specs.Values.{bound, bound_value}
use Rattle.sqlite_value.specs.Value.{owned}
use Rattle.am_keeper_sql.specs.Told.{cells_in}
use Rattle.am_keeper_sql.proofs.Values.{cells_pushed}
use Rattle.am_keeper_sql.proofs.cells.values_of.Goals as goal

pub loop-cell-preserved : goal.loop-cell-preserved
loop-cell-preserved c =
    let cells = c.args.cells.now in
    let at = c.loop-cell.cell-index in
    let before = c.loop-cell.values.items in
    let value = bound_value (owned c.value_of.result) in
    let more = cells_pushed (bound before) (take at cells) value c.cell-item.result c.loop-cell.invariant
    c.value_of.ensures in
    let item = ap (λ x. take at cells ++ x ∷ []) c.cell-item.is ∙ sym
    (take_more cells at c.cell-item.result c.loop-cell-test.true) in
    ap (λ xs. cells_in (bound xs)) c.in_ok-push.ensures.items ∙ ap cells_in
    (map-append (λ v. bound_value (owned v)) before (c.value_of.result ∷ [])) ∙ more ∙ ap Some item
