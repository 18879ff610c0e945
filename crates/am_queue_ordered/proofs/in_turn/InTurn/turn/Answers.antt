use Rattle.std.proofs.Common.{ap, arith, length, length-append}
use Rattle.am_queue_ordered.specs.Doings.{doing_of}
use Rattle.am_queue_ordered.proofs.Outcomes.{marked_turned}
use Rattle.am_queue_ordered.proofs.in_turn.InTurn.turn.Goals as goal

pub invariant_of-self : goal.invariant_of-self
invariant_of-self c = (
  omega (
    arith,
    c.self.invariant.0,
    c.push_reserved.ensures.capacity,
    simp length-append at
        (ap length c.push_reserved.ensures.items),
    ap length c.in-Some.ensures.items,
  ),
  rw (
    c.last_after-self-inside.ensures,
    c.sets-sets.ensures,
    c.ends-self-inside.ensures,
    c.len.ensures,
    c.self.inside.past.ok.0,
    c.push_reserved.ensures.items,
    c.new-past.ensures,
  )
      (marked_turned (doing_of c.args.doing) _ c.in-Some.spot c.pop_front.new.self.items c.self.inside.last
      c.self.inside.aborted c.self.invariant.1),
)
