use Rattle.am_queue_normal.proofs.pairs.Pairs.first.Goals as goal

pub returns-in-Some : goal.returns-in-Some
returns-in-Some c =
    rw (← c.self.view_is) (c.in-Some.ensures.member, λ key number stands. c.in-Some.ensures.least (key, number) stands)
