use Rattle.std.proofs.Common.{◌≡◌, ◌+◌, ◌-◌, ◌∙◌, suc, ap, sym, arith}
use Rattle.am_queue_normal.specs.Posted.{without}
use Rattle.am_queue_normal.proofs.deliveries.Deliveries.take_back.Goals as goal

pub loop-place-preserved : goal.loop-place-preserved
loop-place-preserved c =
    let here = c.args.first + c.loop-place.place in
    let left = c.args.count - (c.loop-place.place + 1) in
    let next : c.args.first + (c.loop-place.place + 1) ≡ here + 1 = omega arith in
    let more : c.args.count - c.loop-place.place ≡ suc left = omega (arith, c.loop-place-test.true) in
    ap (λ n. without n left c.take.new.self) next
    ∙ ap (without (here + 1) left) c.take.ensures.left
    ∙ sym (ap (λ n. without here n c.loop-place.self) more)
    ∙ c.loop-place.invariant
