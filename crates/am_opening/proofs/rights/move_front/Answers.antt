use Rattle.std.proofs.Common.{◌≡◌, ◌<◌, true, false, List, ◌++◌, length, take, sym, subst, ◌∙◌}
use Rattle.am_model.specs.Rights.{Right}
use Rattle.am_opening.specs.Merging.{is_first_before}
use Rattle.am_opening.proofs.Moving.{IsMoving, moved_all, left_all, moved_more, fewer_left}
use Rattle.am_opening.proofs.rights.move_front.Goals as goal

pub loop-done-preserved : goal.loop-done-preserved
loop-done-preserved c =
    let r : Right = (c.args.uid, c.args.text.now) in
    let first : is_first_before r c.loop-done.left.items ≡ true = sym c.is_first_before.ensures
    ∙ c.loop-done-test.true in
    subst (λ (l : List Right). IsMoving r c.args.done.now.items c.args.left.now.items l c.move_first.new.left.items)
    (sym c.in_ok-move_first.ensures.done)
    (subst (λ (l : List Right). IsMoving r c.args.done.now.items c.args.left.now.items
    (c.loop-done.done.items ++ take 1 c.loop-done.left.items) l) (sym c.in_ok-move_first.ensures.left)
    (moved_more r c.args.done.now.items c.args.left.now.items c.loop-done.done.items c.loop-done.left.items first
    c.loop-done.invariant))

pub loop-done-smaller : goal.loop-done-smaller
loop-done-smaller c =
    let r : Right = (c.args.uid, c.args.text.now) in
    let first : is_first_before r c.loop-done.left.items ≡ true = sym c.is_first_before.ensures
    ∙ c.loop-done-test.true in
    subst (λ (l : List Right). length l < length c.loop-done.left.items) (sym c.in_ok-move_first.ensures.left)
    (fewer_left r c.loop-done.left.items first)

pub returns : goal.returns
returns c =
    let r : Right = (c.args.uid, c.args.text.now) in
    let last : is_first_before r c.loop-done.left.items ≡ false = sym c.is_first_before.ensures
    ∙ c.loop-done-test.false in
    record {
      done = moved_all r c.args.done.now.items c.args.left.now.items c.loop-done.done.items c.loop-done.left.items last
          c.loop-done.invariant;
      left = left_all r c.args.done.now.items c.args.left.now.items c.loop-done.done.items c.loop-done.left.items last
          c.loop-done.invariant;
    }
