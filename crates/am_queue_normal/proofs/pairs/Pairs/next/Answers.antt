use Rattle.am_queue_normal.proofs.Keys.{from_pair, next_there, next_other}
use Rattle.am_queue_normal.proofs.pairs.Pairs.next.Goals as goal

pub returns-in-None : goal.returns-in-None
returns-in-None c number up =
    rw (← c.self.view_is) ((c.range.ensures.in_range _).5 c.in-None.ensures.steps.0 (c.args.key, number)
    (from_pair c.args.key c.args.from number up, _))

pub returns-then-pair-key : goal.returns-then-pair-key
returns-then-pair-key c =
    let all = rw c.in-Some.ensures.steps at (c.range.ensures.in_range _) in
    let pair = c.in-Some.pair.now in
    rw (← c.self.view_is) (next_there c.self.inside.keys.keys c.args.key c.args.from pair.0 pair.1 all.1.0.0
    (λ q low is. all.2 q (low, _) is) all.1.1 c.if-pair-key.true)

pub returns-else-pair-key : goal.returns-else-pair-key
returns-else-pair-key c =
    let all = rw c.in-Some.ensures.steps at (c.range.ensures.in_range _) in
    let pair = c.in-Some.pair.now in
    rw (← c.self.view_is) (next_other c.self.inside.keys.keys c.args.key c.args.from pair.0 pair.1 all.1.0.0
    (λ q low is. all.2 q (low, _) is) c.if-pair-key.false)
