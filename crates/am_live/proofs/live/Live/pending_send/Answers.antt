use Rattle.std.proofs.Common.{◌≡◌, ◌∙◌, Err, Ok, Result, ap, subst, sym}
use Rattle.std.specs.Option.{option_copied}
use Rattle.std.proofs.lemmas.Result.{IfOk-weaker}
use Rattle.am_types.specs.declared.pending.Used.{Used}
use Rattle.am_types.specs.declared.pending.PendingFault.{PendingFault}
use Rattle.am_types.specs.declared.reply.Reply.{Reply}
use Rattle.am_model.specs.Pendings.{use_token}
use Rattle.am_history.specs.PendingCalls.{after_use, pending_send}
use Rattle.am_history.specs.State.{State}
use Rattle.am_history.specs.Steps.{at_moment}
use Rattle.am_pending.specs.Answers.{IsRefusal}
use Rattle.am_live_pendings.proofs.PendingLemmas.{fault_is, sent_as}
use Rattle.am_live.proofs.live.Live.pending_send.Goals as goal

pub returns-in-Ok-clause-done : goal.returns-in-Ok-clause-done
returns-in-Ok-clause-done g c =
    let fill = option_copied c.args.fill in
    let state : State = at_moment c.args.self.now c.args.by.moment in
    let is : use_token c.args.self.now.pendings c.args.token c.args.by.uid fill ≡ Ok c.in-Ok.used =
    ap (λ (s : State). use_token s.pendings c.args.token c.args.by.uid fill) (sym c.self.view_is)
    ∙ c.in-Ok.ensures.answer in
    IfOk-weaker c.after_use.result
    (λ (reply : Reply). after_use state c.args.token (Ok c.in-Ok.used) ≡ (reply, c.after_use.new.self))
    (λ (reply : Reply). pending_send state c.args.by.uid c.args.token fill ≡ (reply, c.after_use.new.self))
    (λ (reply : Reply) done. sent_as state c.args.by.uid c.args.token fill (Ok c.in-Ok.used) is ∙ done)
    c.after_use.ensures.done

pub returns-in_ok-reply-in-Err-clause-done : goal.returns-in_ok-reply-in-Err-clause-done
returns-in_ok-reply-in-Err-clause-done g c =
    let fill = option_copied c.args.fill in
    let said : State → Result Used PendingFault = λ state. use_token state.pendings c.args.token c.args.by.uid fill in
    let refused : IsRefusal c.in-Err.fault (said c.args.self.now) =
    subst (λ (state : State). IsRefusal c.in-Err.fault (said state)) c.self.view_is c.in-Err.ensures.answer in
    sent_as (at_moment c.args.self.now c.args.by.moment) c.args.by.uid c.args.token fill (Err c.in-Err.fault)
    (fault_is c.in-Err.fault (said c.args.self.now) c.in_ok-reply-in-Err.ensures.known refused)
    ∙ (λ i. (sym c.in_ok-reply-in-Err.ensures.rule i, sym c.settle.ensures i))
