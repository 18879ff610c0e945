use Rattle.std.proofs.Common.{◌∙◌, refl, sym, length, ℕ}
use Rattle.am_model.specs.Broadcasts.{Broadcasts}
use Rattle.am_model.specs.Sending.{send, with_sent}
use Rattle.am_queue.proofs.SendLaws.{sent_unless}
use Rattle.am_queue.proofs.queues.Queues.send.Goals as goal

pub returns-in-Some-clause-refused : goal.returns-in-Some-clause-refused
unfolding send
returns-in-Some-clause-refused c = λ _.
    sent_unless c.args.self.now c.args.call.sender (length c.args.call.to) _
    (rw c.as_slice.ensures at (sym c.refusal.ensures ∙ c.in-Some.is))

pub returns-in-Ok-clause-sent : goal.returns-in-Ok-clause-sent
unfolding send
returns-in-Ok-clause-sent c =
    rw (c.in-Ok.ensures.number, c.in-Ok.ensures.sent)
    (sent_unless c.args.self.now c.args.call.sender (length c.args.call.to) _
    (rw c.as_slice.ensures at (sym c.refusal.ensures ∙ c.in-None.is)))

pub returns-in-Err-clause-no_memory : goal.returns-in-Err-clause-no_memory
unfolding send
returns-in-Err-clause-no_memory c = λ _.
    rw (sent_unless {X = ℕ × Broadcasts} c.args.self.now c.args.call.sender (length c.args.call.to)
    (c.args.self.now.next_broadcast, with_sent c.args.self.now c.args.call c.args.call.ordered)
    (rw c.as_slice.ensures at (sym c.refusal.ensures ∙ c.in-None.is))) refl
