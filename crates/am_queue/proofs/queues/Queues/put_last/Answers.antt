use Rattle.std.proofs.Common.{arith}
use Rattle.am_queue.proofs.Keeping.{numbers_left}
use Rattle.am_queue.proofs.queues.Queues.put_last.Goals as goal

pub overflow_add-more : goal.overflow_add-more
overflow_add-more c = omega (arith, numbers_left c.self.invariant.sound, c.len.ensures, c.len-2.ensures)

pub overflow_add-more-2 : goal.overflow_add-more-2
overflow_add-more-2 c = omega (arith, numbers_left c.self.invariant.sound, c.len.ensures, c.len-2.ensures)
