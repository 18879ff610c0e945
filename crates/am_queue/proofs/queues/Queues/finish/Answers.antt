use Rattle.std.proofs.Common.{◌∙◌, sym}
use Rattle.am_model.specs.Sending.{finish}
use Rattle.am_queue.proofs.Finishing.{finished_unless}
use Rattle.am_queue.proofs.queues.Queues.finish.Goals as goal

pub returns-in-Some-clause-refused : goal.returns-in-Some-clause-refused
unfolding finish
returns-in-Some-clause-refused c =
    rw c.held.ensures (finished_unless c.args.self.now c.args.delivery c.args.uid c.args.answer c.args.now _
    (sym c.fault_of.ensures ∙ c.in-Some.is))

pub returns-in-None-clause-finished : goal.returns-in-None-clause-finished
unfolding finish
returns-in-None-clause-finished c =
    rw (c.held.ensures, c.settle_both.ensures, c.finish_result.ensures, c.answer_head.ensures, c.finish_normal.ensures)
    (finished_unless c.args.self.now c.args.delivery c.args.uid c.args.answer c.args.now _
    (sym c.fault_of.ensures ∙ c.in-None.is))
