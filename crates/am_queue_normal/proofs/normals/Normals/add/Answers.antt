use Rattle.std.proofs.Common.{◌+◌, length, ap, arith}
use Rattle.am_queue_normal.proofs.Adding.{raised, sent_grouped, sent_order, sent_with}
use Rattle.am_queue_normal.proofs.normals.Normals.add.Goals as goal

pub put_all-requires-clause-order : goal.put_all-requires-clause-order
put_all-requires-clause-order c =
    let q = c.self.inside in
    rw c.in_ok-sent.ensures.ok (raised q.end c.args.begin.first q.deliveries (rw (← c.self.view_is) at c.requires.end)
    c.self.invariant)

pub invariant_of-self-2 : goal.invariant_of-self-2
invariant_of-self-2 c =
    let q = c.self.inside in
    let sent = sent_with c.args.begin c.args.sending (c.args.begin.first + length c.as_slice.result.now) in
    rw (c.in_ok-put_all.ensures.ok, c.in_ok-sent.ensures.ok)
    (sent_order sent c.args.begin.deadline q.end q.deliveries c.self.invariant (rw (← c.self.view_is) at c.requires.end)
    c.as_slice-2.result.now (rw (c.as_slice.ensures, c.as_slice-2.ensures) (omega arith)))

pub returns-clause-ok : goal.returns-clause-ok
returns-clause-ok c =
    let q = c.self.inside in
    let sent = sent_with c.args.begin c.args.sending (c.args.begin.first + length c.args.sending.to) in
    rw (
      c.in_ok-put_all.ensures.ok,
      c.in_ok-sent.ensures.ok,
      ← c.self.view_is,
      c.as_slice.ensures,
      c.as_slice-2.ensures,
      c.requires.deadline,
    )
    (ap (λ n. record { normal = n; end = c.args.begin.first + length c.args.sending.to })
    (sent_grouped sent _ q.end q.deliveries c.self.invariant (rw (← c.self.view_is) at c.requires.end) c.args.sending.to
    c.requires.some))
