use Rattle.std.proofs.Common.{refl, arith}
use Rattle.std.proofs.lemmas.Bool.{false≢true}
use Rattle.am_audit_frames.proofs.Frames.{begins_by, dead_has_none}
use Rattle.am_audit_frames.proofs.endings.has_no_head.Goals as goal

pub returns-in-Ok-Complete : goal.returns-in-Ok-Complete
returns-in-Ok-Complete c = (
  λ no. absurd (false≢true no),
  λ none.
      let of = rw c.in-Ok-Complete.field-0-is at c.in-Ok-Complete.ensures.complete in
      absurd (none of.0 (begins_by c.args.window.now c.parse_request.new.headers _ of.0 (omega arith) of.1)),
)

pub returns-in-Ok-Partial : goal.returns-in-Ok-Partial
returns-in-Ok-Partial c = (
  λ yes h b. (rw c.in-Ok-Partial.field-0-is at c.in-Ok-Partial.ensures.partial) h b.0 b.1,
  λ none. refl,
)

pub returns-in-Err : goal.returns-in-Err
returns-in-Err c = (λ yes. dead_has_none c.args.window.now c.in-Err.ensures.no_room, λ none. refl)
