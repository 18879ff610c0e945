use Rattle.std.proofs.Common.{◌∙◌, Err, ap, sym}
use Rattle.am_types.specs.declared.reply.Reply.TheVariants.{Refused}
use Rattle.am_history.specs.PendingCalls.{after_change, pending_cancel}
use Rattle.am_history.specs.State.{State}
use Rattle.am_live_pendings.proofs.PendingLemmas.{fault_is}
use Rattle.am_live_pendings.proofs.pendings.cancel.Goals as goal

pub returns-in-Ok : goal.returns-in-Ok
unfolding pending_cancel
returns-in-Ok g c = λ (state : State).
    ap (after_change (record state { pendings = c.args.pending.now })) c.in-Ok.ensures.answer

pub returns-in-Err : goal.returns-in-Err
unfolding pending_cancel
returns-in-Err g c = λ (state : State).
    ap (after_change (record state { pendings = c.args.pending.now }))
    (fault_is c.in-Err.fault _ (λ e. c.in-Err.ensures.memory (ap Err e)) c.in-Err.ensures.answer.0)
    ∙ (λ i. (Refused (sym c.rule_of.ensures i), record state { pendings = sym c.in-Err.ensures.answer.1 i }))
