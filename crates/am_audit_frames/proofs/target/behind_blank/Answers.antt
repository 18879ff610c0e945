use Rattle.am_audit_frames.proofs.OpenLines.{line_more}
use Rattle.am_audit_frames.proofs.target.behind_blank.Goals as goal

pub loop-more-preserved : goal.loop-more-preserved
loop-more-preserved c =
    line_more c.args.text.now c.loop-more.rest.now c.in-Some.more.now c.loop-more.invariant c.in-Some.ensures
