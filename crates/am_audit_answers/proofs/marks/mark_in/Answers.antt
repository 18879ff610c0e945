use Rattle.std.proofs.Common.{ap, ◌∙◌}
use Rattle.am_audit_answers.proofs.Lines.{line_behind}
use Rattle.am_audit_answers.proofs.MarkLemmas.{behind_marked, behind_unmarked}
use Rattle.am_audit_answers.proofs.marks.mark_in.Goals as goal

pub returns-clause-marked : goal.returns-clause-marked
returns-clause-marked c = λ at stored m.
    c.mark_at.ensures.marked at stored m.rest m.fits.2 (c.behind_line-3.ensures
    ∙ (ap line_behind (c.behind_line-2.ensures ∙ ap line_behind c.behind_line.ensures)
    ∙ behind_marked c.args.bytes.now at stored m))

pub returns-clause-unmarked : goal.returns-clause-unmarked
returns-clause-unmarked c = λ m.
    c.mark_at.ensures.unmarked m.rest (c.behind_line-3.ensures ∙ (ap line_behind
    (c.behind_line-2.ensures ∙ ap line_behind c.behind_line.ensures) ∙ behind_unmarked c.args.bytes.now m))
