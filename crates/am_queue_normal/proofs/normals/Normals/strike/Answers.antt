use Rattle.std.proofs.Common.{◌≡◌, ◌∙◌, not, ap, sym, subst, arith}
use Rattle.am_model.specs.Broadcasts.{Delivery, normals_keeping}
use Rattle.am_queue_ordered.specs.Struck.{strikes}
use Rattle.am_queue_normal.specs.Kept.{Kept, PassBelow, is_other}
use Rattle.am_queue_normal.proofs.normals.Normals.strike.Goals as goal

pub loop-number-preserved : goal.loop-number-preserved
loop-number-preserved c =
    let keeps = λ (d : Delivery). not (strikes c.args.struck.now d.spot) in
    let left : c.finish.new.self.normal ≡ normals_keeping (is_other c.in-Some.number) c.loop-number.self.normal = ap
    (λ (k : Kept). k.normal) c.finish.ensures.normal in record {
      others = ap (normals_keeping keeps) left ∙ c.in-Some.ensures.all.1 ∙ c.loop-number.invariant.others;
      end = ap (λ (k : Kept). k.end) c.finish.ensures.normal ∙ c.loop-number.invariant.end;
      below = subst (PassBelow keeps c.in-Some.number) (sym left) c.in-Some.ensures.below;
      counted = λ uid. omega (arith, c.loop-number.invariant.counted uid, c.finish.ensures.live uid);
      follows = λ uid. omega (arith, c.loop-number.invariant.follows uid, c.finish.ensures.live uid);
    }
