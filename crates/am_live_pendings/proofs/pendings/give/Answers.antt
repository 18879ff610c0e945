use Rattle.std.proofs.Common.{◌∙◌, None, Some, ap, refl, sym}
use Rattle.std.specs.Option.{option_copied}
use Rattle.std.proofs.lemmas.Result.{IfOk-weaker}
use Rattle.am_types.specs.declared.reply.Reply.{Reply}
use Rattle.am_model.specs.Pendings.{Pendings, give}
use Rattle.am_history.specs.PendingCalls.{after_change}
use Rattle.am_history.specs.State.{State}
use Rattle.am_live_pendings.proofs.PendingLemmas.{given_to, refused_is}
use Rattle.am_live_pendings.proofs.pendings.give.Goals as goal

pub returns-in_default-clause-done : goal.returns-in_default-clause-done
returns-in_default-clause-done g c = λ (state : State).
    given_to (record state { board = c.args.board.now; pendings = c.args.pending.now }) c.args.caller c.args.token
    c.args.name.now
    None (sym c.package_named.ensures ∙ ap option_copied c.in_default.is)

pub returns-in-Ok-clause-done : goal.returns-in-Ok-clause-done
returns-in-Ok-clause-done g c = λ (state : State).
    let before : State = record state { board = c.args.board.now; pendings = c.args.pending.now } in
    given_to before c.args.caller c.args.token c.args.name.now
    (Some c.in-Some.to.now) (sym c.package_named.ensures ∙ ap option_copied c.in-Some.is)
    ∙ ap (after_change before) c.in-Ok.ensures.answer

pub returns-in-Err-clause-done : goal.returns-in-Err-clause-done
returns-in-Err-clause-done g c =
    let before : State → State = λ state. record state { board = c.args.board.now; pendings = c.args.pending.now } in
    IfOk-weaker c.refused.result _ _
    (λ (reply : Reply) is (state : State).
    given_to (before state) c.args.caller c.args.token c.args.name.now
    (Some c.in-Some.to.now) (sym c.package_named.ensures ∙ ap option_copied c.in-Some.is)
    ∙ is state)
    (refused_is (λ (state : State). after_change (before state))
    (λ (state : State) (left : Pendings). record state { board = c.args.board.now; pendings = left })
    (give c.args.pending.now c.args.token c.args.caller c.in-Some.to.now.uid) c.in-Err.fault c.args.pending.now
    c.give.new.self c.refused.result
    (λ (state : State). refl) c.in-Err.ensures.answer c.refused.ensures.rule c.refused.ensures.known)
