use Rattle.std.proofs.Common.{◌∙◌, ℕ, ap, false, refl, sym, true}
use Rattle.std.specs.Option.{option_copied}
use Rattle.std.proofs.lemmas.Result.{IfOk-weaker}
use Rattle.am_types.specs.declared.reply.Reply.{Reply}
use Rattle.am_types.specs.declared.reply.Reply.TheVariants as replies
use Rattle.am_types.specs.declared.rule.Rule.TheVariants as rules
use Rattle.am_model.specs.Broadcasts.{Broadcasts}
use Rattle.am_history.specs.State.{State}
use Rattle.am_history.specs.Steps.{at_moment}
use Rattle.am_live_broadcasts.proofs.BroadcastLemmas.{in_state, send_left, send_refused, withheld_by}
use Rattle.am_live_broadcasts.proofs.broadcasts.send.Goals as goal

pub returns-then-is_withheld-clause-done : goal.returns-then-is_withheld-clause-done
returns-then-is_withheld-clause-done g c = λ (s : State).
    let message = c.args.message.now in
    let old : State = record s { board = c.args.board.now; broadcasts = c.args.queues.now } in
    let left : Broadcasts → State = λ all. record old { broadcasts = all; moment = c.args.by.moment } in
    let withheld = withheld_by _ c.args.board.now.protected message.intent.now.action c.args.by.uid c.is_withheld.result
    true c.is_withheld.ensures c.protected.ensures c.if-is_withheld.true in
    in_state _ (replies.Refused rules.ProtectedAction) (at_moment old c.args.by.moment) (left c.expire.new.self)
    (send_refused c.args.by.uid message.intent.now (option_copied message.permission) (option_copied message.ordered)
    (at_moment old c.args.by.moment) withheld)
    (ap left c.expire.ensures.expired)

pub returns-clause-done : goal.returns-clause-done
returns-clause-done g c =
    let message = c.args.message.now in
    let open_to = withheld_by _ c.args.board.now.protected message.intent.now.action c.args.by.uid c.is_withheld.result
    false c.is_withheld.ensures c.protected.ensures c.if-is_withheld.false in
    IfOk-weaker c.send_to.result _ _
    (λ (reply : Reply) sent (s : State).
    let old : State = record s { board = c.args.board.now; broadcasts = c.args.queues.now } in
    let left : ℕ → State = λ moment. record old { broadcasts = c.send_to.new.queues; moment = moment } in
    sym (send_left c.args.by.uid message.intent.now (option_copied message.permission) (option_copied message.ordered)
    old c.args.by.moment
    c.in_ok-offered.offered c.in_ok-sending.sending open_to c.in_ok-offered.ensures.receivers
    c.in_ok-sending.ensures.moment (c.in_ok-sending.ensures.sending (at_moment old c.args.by.moment) refl))
    ∙ sent old
    ∙ ap (λ (moment : ℕ). (reply, left moment)) c.in_ok-sending.ensures.moment)
    c.send_to.ensures.done
