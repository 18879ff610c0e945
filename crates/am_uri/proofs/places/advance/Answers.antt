use Rattle.std.proofs.Common.{get_or, arith}
use Rattle.std.proofs.lemmas.List.{length-set}
use Rattle.am_uri.proofs.PathBits.{go_fits, go_carries}
use Rattle.am_uri.proofs.PathSteps.{advance_on}
use Rattle.am_uri.proofs.places.advance.Goals as goal

pub overflow_mul-goes : goal.overflow_mul-goes
overflow_mul-goes c =
    let l = c.loop-i in
    omega (arith, go_fits l.i l.carry l.reached c.args.allowed.now c.args.repeated.now c.requires.spare l.invariant.carries)

pub overflow_add-goes : goal.overflow_add-goes
overflow_add-goes c =
    let l = c.loop-i in
    omega (arith, go_fits l.i l.carry l.reached c.args.allowed.now c.args.repeated.now c.requires.spare l.invariant.carries)

pub loop-i-preserved : goal.loop-i-preserved
loop-i-preserved c =
    let l = c.loop-i in
    record {
      same_length = simp length-set l.invariant.same_length;
      carries = go_carries 63 (get_or l.reached l.i 0) (get_or c.args.allowed.now l.i 0)
          (get_or c.args.repeated.now l.i 0) l.carry (c.requires.spare l.i) l.invariant.carries;
      so_far = advance_on 63 l.i l.carry c.args.allowed.now c.args.repeated.now l.reached _ (omega arith) (omega arith)
          (omega arith) l.invariant.so_far;
    }
