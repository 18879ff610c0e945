use Rattle.std.proofs.Common.{◌∙◌, Bool, ap, sym}
use Rattle.std.specs.Prelude.{if◌then◌else◌}
use Rattle.am_types.specs.declared.reply.Reply.{Reply}
use Rattle.am_history.specs.PendingCalls.{lend, used_up}
use Rattle.am_history.specs.State.{State}
use Rattle.am_history.specs.Steps.{at_moment}
use Rattle.am_live.specs.contracts.live.Live.{the_view}
use Rattle.am_live.proofs.live.Live.after_use.Goals as goal
use Rattle.am_live.proofs.live.Live.after_use.Goals.{then-one_shot, else-one_shot}

pub returns-clause-done : goal.returns-clause-done
returns-clause-done g c =
    let used = c.args.used in
    let lent : Reply × State = lend (at_moment c.args.self.now c.args.by.moment) used.creator used.intent used.kind in
    let chosen : Bool → Reply × State = λ b. if b then used_up c.args.token used.creator lent else lent in
    elim c.if-one_shot.branch [
      | then-one_shot w ↦
          ap chosen w.if-one_shot.true
          ∙ ap (used_up c.args.token used.creator) c.in_ok-reply.ensures.done
          ∙ ap (λ (left : State). used_up c.args.token used.creator (c.in_ok-reply.reply, left)) (sym c.self.view_is)
          ∙ w.use_up.ensures (the_view c.self.inside) c.in_ok-reply.reply
          ∙ ap (λ (left : State). (c.in_ok-reply.reply, left)) (sym w.self-is)
      | else-one_shot w ↦
          ap chosen w.if-one_shot.false
          ∙ c.in_ok-reply.ensures.done
          ∙ ap (λ (left : State). (c.in_ok-reply.reply, left)) (sym w.self-is)
    ]
