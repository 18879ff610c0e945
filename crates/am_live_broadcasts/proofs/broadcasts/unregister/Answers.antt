use Rattle.std.proofs.Common.{◌∙◌, None, Some, ap}
use Rattle.am_types.specs.declared.reply.Reply.TheVariants as replies
use Rattle.am_types.specs.declared.rule.Rule.TheVariants as rules
use Rattle.am_model.specs.Broadcasts.{Broadcasts}
use Rattle.am_history.specs.State.{State}
use Rattle.am_history.specs.Steps.{at_moment}
use Rattle.am_live_broadcasts.proofs.BroadcastLemmas.{held_among, in_state, taken_out, unregister_none, unregister_other, unregister_own}
use Rattle.am_live_broadcasts.proofs.broadcasts.unregister.Goals as goal

pub returns-in-None-clause-done : goal.returns-in-None-clause-done
returns-in-None-clause-done g c = λ (s : State).
    let old : State = record s { board = c.args.board.now; broadcasts = c.args.queues.now } in
    let left : Broadcasts → State = λ all. record old { broadcasts = all; moment = c.args.by.moment } in
    let held = held_among c.args.number _ old.board.registered _ None c.holder_of-holder.ensures
    c.registered.ensures.registered c.in-None.is in
    in_state _ (replies.Refused rules.NoReceiver) (at_moment old c.args.by.moment) (left c.expire.new.self)
    (unregister_none (at_moment old c.args.by.moment) c.args.by.uid c.args.number held)
    (ap left c.expire.ensures.expired)

pub returns-in-Some-clause-done : goal.returns-in-Some-clause-done
returns-in-Some-clause-done g c = λ (s : State).
    let old : State = record s { board = c.args.board.now; broadcasts = c.args.queues.now } in
    let left : Broadcasts → State = λ all. record old { broadcasts = all; moment = c.args.by.moment } in
    let held = held_among c.args.number _ old.board.registered _ (Some c.in-Some.uid) c.holder_of-holder.ensures
    c.registered.ensures.registered c.in-Some.is in
    in_state _ (replies.Refused rules.NotYours) (at_moment old c.args.by.moment) (left c.expire.new.self)
    (unregister_other (at_moment old c.args.by.moment) c.args.by.uid c.args.number c.in-Some.uid held c.if-uid-by.true)
    (ap left c.expire.ensures.expired)

pub returns-in-Some-2-clause-done : goal.returns-in-Some-2-clause-done
returns-in-Some-2-clause-done g c = λ (s : State).
    let old : State = record s { board = c.args.board.now; broadcasts = c.args.queues.now } in
    let left : Broadcasts → State = λ all. record old { broadcasts = all; moment = c.args.by.moment } in
    let held = held_among c.args.number _ old.board.registered _ (Some c.in-Some.uid) c.holder_of-holder.ensures
    c.registered.ensures.registered c.in-Some.is in
    unregister_own (at_moment old c.args.by.moment) c.args.by.uid c.args.number c.in-Some.uid held c.if-uid-by.false
    ∙ taken_out (at_moment old c.args.by.moment) (left c.expire.new.self) c.args.number c.unregister.new.self
    c.forget_registered.new.self
    (ap left c.expire.ensures.expired) c.unregister.ensures c.forget_registered.ensures
