use Rattle.std.proofs.Common.{◌≡◌, ◌∙◌, false, sym, ap, arith, nat_cmp}
use Rattle.std.specs.List.{list_any}
use Rattle.std.specs.Map.{remove_entry}
use Rattle.std.specs.BTreeMap.{is_at}
use Rattle.am_queue_normal.specs.Kept.{normals_of}
use Rattle.am_queue_normal.specs.Posted.{grouped, is_between}
use Rattle.am_queue_normal.proofs.Grouping.{as_many_grouped}
use Rattle.am_queue_normal.proofs.Removing.{counted_out, left_grouped, left_in_order, one_less, own_counted, unheld}
use Rattle.am_queue_normal.proofs.normals.Normals.finish.Goals as goal

pub invariant_of-self : goal.invariant_of-self
invariant_of-self c = rw c.take.ensures.left (left_in_order c.args.number c.self.inside.end c.self.inside.deliveries
    c.self.invariant)

pub returns-in_default-clause-normal : goal.returns-in_default-clause-normal
returns-in_default-clause-normal c =
    absurd (unheld c.args.number c.self.inside.deliveries (rw (← c.self.view_is) at c.requires.held)
    (sym c.take.ensures.taken ∙ c.in_default.is))

pub returns-in_default-clause-live : goal.returns-in_default-clause-live
returns-in_default-clause-live c =
    absurd (unheld c.args.number c.self.inside.deliveries (rw (← c.self.view_is) at c.requires.held)
    (sym c.take.ensures.taken ∙ c.in_default.is))

pub returns-in_default-clause-fewer : goal.returns-in_default-clause-fewer
returns-in_default-clause-fewer c =
    absurd (unheld c.args.number c.self.inside.deliveries (rw (← c.self.view_is) at c.requires.held)
    (sym c.take.ensures.taken ∙ c.in_default.is))

pub invariant_of-self-2 : goal.invariant_of-self-2
invariant_of-self-2 c = rw c.take.ensures.left (left_in_order c.args.number c.self.inside.end c.self.inside.deliveries
    c.self.invariant)

pub uncount-requires : goal.uncount-requires
uncount-requires c none =
    let q = c.self.inside in
    let x = c.in-Some.delivery in
    let counted = rw (← c.self.view_is) at c.requires.counted in
    let tested : list_any (is_between c.first-first.result c.end-end.result) c.take.new.self
    ≡ false = sym c.is_any_between-others.ensures ∙ none in
    let test : list_any (is_between x.sent.first x.sent.end) (remove_entry (is_at (nat_cmp c.args.number)) q.deliveries)
    ≡ false =
    rw (c.first-first.ensures, c.end-end.ensures, c.take.ensures.left) at tested in
    let total = rw test at (counted_out x.sent.sender q.end c.args.number x q.deliveries c.self.invariant
    (sym c.in-Some.ensures.taken)) in
    let some = own_counted x.sent.sender (normals_of (grouped q.deliveries) x.sent.sender)
    (normals_of (grouped (remove_entry (is_at (nat_cmp c.args.number)) q.deliveries)) x.sent.sender) total in
    rw c.sender-sender.ensures (omega (arith, some, counted x.sent.sender))

pub returns-clause-normal : goal.returns-clause-normal
returns-clause-normal c =
    let q = c.self.inside in
    rw (c.take.ensures.left, ← c.self.view_is) (ap (λ n. record { normal = n; end = q.end })
    (left_grouped c.args.number q.end q.deliveries c.self.invariant))

pub returns-clause-fewer : goal.returns-clause-fewer
returns-clause-fewer c =
    let q = c.self.inside in
    rw (← c.self.view_is, as_many_grouped q.deliveries, as_many_grouped c.take.new.self, c.take.ensures.left)
    (omega (arith, one_less c.args.number c.in-Some.delivery q.deliveries (sym c.in-Some.ensures.taken)))

pub returns-clause-live : goal.returns-clause-live
returns-clause-live c = λ uid.
    let q = c.self.inside in
    let x = c.in-Some.delivery in
    let out = counted_out uid q.end c.args.number x q.deliveries c.self.invariant (sym c.in-Some.ensures.taken) in
    let lowered = rw (
      c.is_any_between-others.ensures,
      c.first-first.ensures,
      c.end-end.ensures,
      c.sender-sender.ensures,
      c.take.ensures.left,
    ) at (c.uncount.ensures uid) in
    rw (← c.self.view_is, c.take.ensures.left) (omega (arith, out, lowered))
