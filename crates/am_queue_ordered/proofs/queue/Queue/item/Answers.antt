use Rattle.std.proofs.Common.{arith}
use Rattle.am_queue_ordered.proofs.Waiting.{items_of_head}
use Rattle.am_queue_ordered.proofs.queue.Queue.item.Goals as goal

pub returns-in-Some : goal.returns-in-Some
returns-in-Some c =
    rw (
      ← c.self.view_is,
      items_of_head c.args.uid c.self.inside.turns.items c.in-Some.head.now (grind arith)
          c.in-Some.ensures.lookup c.self.invariant,
    ) c.item.ensures
