use Rattle.std.proofs.Common.{◌≡◌, ap, arith}
use Rattle.crossbeam_queue.specs.Passes.{view}
use Rattle.am_baton.proofs.Moves.{forks}
use Rattle.am_baton.proofs.sharing.all_desks.Goals as goal

pub another-next-requires-clause-rule : goal.another-next-requires-clause-rule
another-next-requires-clause-rule g c =
    let turn = c.loop-number.invariant.turn in
    let number : (view c.loop-number.pass).mark.number ≡ c.loop-number.number = ap (λ v. v.mark.number) turn in
    let many : (view c.loop-number.pass).mark.start.desks ≡ (view c.args.pass).mark.start.desks = ap
    (λ v. v.mark.start.desks) turn in
    let asked : c.args.desks ≡ (view c.args.pass).mark.start.desks = c.requires.desks in
    let below = c.loop-number-test.true in
    forks _ _ (ap (λ v. v.live) turn) (ap (λ v. v.holds) turn) (ap (λ v. v.makes) turn) (omega arith)
