use Rattle.std.proofs.Common.{sym, subst}
use Rattle.std.proofs.lemmas.Bool.{both_ways}
use Rattle.am_frames.specs.Framing.{HasNoHead, MayOverlook}
use Rattle.am_audit_frames.proofs.endings.may_be_dead.Goals as goal

pub returns-then-has_no_head : goal.returns-then-has_no_head
returns-then-has_no_head c =
    let is = c.window-window.ensures in (
      λ yes. record {
        none = subst HasNoHead is (c.has_no_head.ensures.0 c.if-has_no_head.true);
        overlooked = subst MayOverlook is (c.may_overlook.ensures.0 yes);
      },
      λ m. c.may_overlook.ensures.1 (subst MayOverlook (sym is) m.overlooked),
    )

pub returns-else-has_no_head : goal.returns-else-has_no_head
returns-else-has_no_head c = (
  λ yes. absurd (both_ways c.has_no_head.result c.if-has_no_head.false yes),
  λ m. c.has_no_head.ensures.1 (subst HasNoHead (sym c.window-window.ensures) m.none),
)
