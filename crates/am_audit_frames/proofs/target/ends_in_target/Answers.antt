use Rattle.am_audit_frames.proofs.OpenLines.{ends_from_line, line_from_ends}
use Rattle.am_audit_frames.proofs.target.ends_in_target.Goals as goal

pub returns : goal.returns
returns c =
    let before = c.behind_blank.ensures.blank in
    let rest = c.behind_blank.result.now in (
      λ yes. ends_from_line c.args.text.now rest before.0 before.1 (c.is_open_line.ensures.0 yes),
      λ e.
          c.is_open_line.ensures.1 (line_from_ends c.args.text.now rest before.0 before.1 c.behind_blank.ensures.all e),
    )
