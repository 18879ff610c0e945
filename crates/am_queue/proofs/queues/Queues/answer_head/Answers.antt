use Rattle.std.proofs.Common.{◌≡◌, ◌∙◌, refl, sym, true}
use Rattle.am_model.specs.Broadcasts as broadcasts
use Rattle.am_queue_ordered.specs.Heads.{is_head}
use Rattle.am_queue.proofs.Finishing.{answered_turned, unanswered, heads_differ}
use Rattle.am_queue.proofs.queues.Queues.answer_head.Goals as goal

pub returns-then-is_head : goal.returns-then-is_head
returns-then-is_head c =
    let q = c.self.inside in
    let is : is_head c.args.number q.foreground ≡ true = sym c.is_head.ensures ∙ c.if-is_head.true in
    rw (
      c.turn_head.ensures,
      ← c.self.view_is,
      answered_turned c.args.number (broadcasts.Answered c.args.answer) q.foreground is,
      unanswered c.args.number (broadcasts.Answered c.args.answer) q.background
          (heads_differ c.args.number _ c.self.invariant.sound is),
    ) refl
