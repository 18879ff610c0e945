use Rattle.std.proofs.Common.{arith}
use Rattle.am_queue.proofs.Keeping.{numbers_left}
use Rattle.am_queue.proofs.queues.Queues.copy.Goals as goal

pub overflow_add-waiting : goal.overflow_add-waiting
overflow_add-waiting c = omega (arith, numbers_left c.self.invariant.sound)
