use Rattle.am_queue.proofs.queues.Queues.held.Goals as goal

pub holder-requires-4 : goal.holder-requires-4
holder-requires-4 c = (c.self.inside.next_delivery, c.self.invariant.sound.rising)
