use Rattle.std.proofs.Common.{Bool, List, ◌≡◌, ◌∙◌, ap, sym}
use Rattle.am_model.specs.Rights.{Right}
use Rattle.am_opening.specs.Merging.{is_live, merge_if, merge_one}
use Rattle.am_opening.proofs.merging.merge_row.Goals as goal

-- the right of the row is a uid and a text
pub returns-in_ok-merge_one : goal.returns-in_ok-merge_one
returns-in_ok-merge_one g c =
    let right = g.T.RightRow.right c.args.row.now in
    let before : List Right × List Right = (c.args.done.now.items, c.args.left.now.items) in
    let tested : (c.uid.result, c.text.result.now) ≡ right = λ i. (c.uid.ensures i, c.text.ensures i) in
    let merged : (c.uid-then-is_live.result, c.text-then-is_live.result.now) ≡ right =
    λ i. (c.uid-then-is_live.ensures i, c.text-then-is_live.ensures i) in
    c.in_ok-merge_one.ensures
    ∙ ap (λ (r : Right). merge_one r c.held.result before) merged
    ∙ ap (λ (b : Bool). merge_one right b before) c.held.ensures
    ∙ ap (λ (b : Bool). merge_if b right (g.T.RightRow.is_held c.args.row.now) before)
    (sym c.if-is_live.true ∙ c.is_live.ensures ∙ ap (λ (r : Right). is_live c.args.kind c.args.packages.now r) tested)

pub returns-else-is_live : goal.returns-else-is_live
returns-else-is_live g c =
    let right = g.T.RightRow.right c.args.row.now in
    let tested : (c.uid.result, c.text.result.now) ≡ right = λ i. (c.uid.ensures i, c.text.ensures i) in
    ap (λ (b : Bool). merge_if b right (g.T.RightRow.is_held c.args.row.now)
    (c.args.done.now.items, c.args.left.now.items))
    (sym c.if-is_live.false ∙ c.is_live.ensures ∙ ap (λ (r : Right). is_live c.args.kind c.args.packages.now r) tested)
