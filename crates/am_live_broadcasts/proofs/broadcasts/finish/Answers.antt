use Rattle.std.proofs.Common.{ap}
use Rattle.am_model.specs.Broadcasts.{Broadcasts}
use Rattle.am_history.specs.State.{State}
use Rattle.am_live_broadcasts.proofs.BroadcastLemmas.{finish_done, finish_refused}
use Rattle.am_live_broadcasts.proofs.broadcasts.finish.Goals as goal

pub returns-in-Ok-clause-done : goal.returns-in-Ok-clause-done
returns-in-Ok-clause-done g c = λ (s : State).
    let left : Broadcasts → State = λ all. record s { broadcasts = all; moment = c.args.by.moment } in
    finish_done (record s { broadcasts = c.args.queues.now }) (left c.expire.new.self) c.args.by.moment c.args.by.uid
    c.args.delivery c.args.answer.now c.in_ok-answer.answer
    (ap left c.expire.ensures.expired) c.in_ok-answer.ensures.same c.finish.new.self c.in-Ok.ensures.finished

pub returns-in-Err-clause-done : goal.returns-in-Err-clause-done
returns-in-Err-clause-done g c = λ (s : State).
    let left : Broadcasts → State = λ all. record s { broadcasts = all; moment = c.args.by.moment } in
    finish_refused (record s { broadcasts = c.args.queues.now }) (left c.expire.new.self) c.args.by.moment c.args.by.uid
    c.args.delivery c.args.answer.now c.in_ok-answer.answer
    (ap left c.expire.ensures.expired) c.in_ok-answer.ensures.same c.finish.new.self c.in-Err.fault c.finish_rule.result
    c.in-Err.ensures.refused c.in-Err.ensures.same c.finish_rule.ensures
