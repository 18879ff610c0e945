use Rattle.std.proofs.Common.{◌≡◌, ◌+◌, List, [], refl, sym, subst}
use Rattle.std.specs.Prelude.{IfOk}
use Rattle.am_model.specs.Rights.{Right}
use Rattle.am_model.specs.Sound.{right_cmp}
use Rattle.am_opening.specs.Merging.{is_live}
use Rattle.am_opening.proofs.Follows.{IsMerging, none_merged, one_merged, rise, all_merged}
use Rattle.am_opening.proofs.merging.merged.Goals as goal

pub loop-row-init : goal.loop-row-init
loop-row-init g c =
    let of_row = g.T.RightRow.right in
    let held = g.T.RightRow.is_held in
    let live = λ (row : g.row.T.Denot). is_live c.args.kind c.args.packages.now (of_row row) in
    subst (λ (l : List Right). IsMerging of_row held live c.args.rights.items c.args.rows.now 0 l
    c.from_vec-left.result.items) (sym c.new-done.ensures.items)
    (subst (λ (l : List Right). IsMerging of_row held live c.args.rights.items c.args.rows.now 0 [] l)
    (sym c.from_vec-left.ensures.items)
    (none_merged of_row held live c.args.rights.items c.args.rows.now
    (rise of_row held live (λ x y. right_cmp (of_row x) (of_row y)) (λ x y. refl) c.args.rows.now c.requires.order)))

pub loop-row-preserved : goal.loop-row-preserved
loop-row-preserved g c =
    let of_row = g.T.RightRow.right in
    let held = g.T.RightRow.is_held in
    let live = λ (row : g.row.T.Denot). is_live c.args.kind c.args.packages.now (of_row row) in
    subst (λ (p : List Right × List Right). IsMerging of_row held live c.args.rights.items c.args.rows.now
    (c.loop-row.row-index + 1) p.0 p.1) (sym c.in_ok-merge_row.ensures)
    (one_merged of_row held live c.args.rights.items c.args.rows.now c.loop-row.row-index c.row-item.result
    c.loop-row.done.items c.loop-row.left.items
    c.requires.sorted c.loop-row-test.true c.row-item.is c.loop-row.invariant)

pub returns : goal.returns
returns g c =
    subst (λ (l : List Right). IfOk c.joined.result (λ all. all.items ≡ l))
    (all_merged g.T.RightRow.right g.T.RightRow.is_held (λ row. is_live c.args.kind c.args.packages.now
    (g.T.RightRow.right row))
    c.args.rights.items c.args.rows.now c.loop-row.row-index c.loop-row.done.items c.loop-row.left.items
    c.loop-row-test.false c.loop-row.invariant)
    c.joined.ensures
