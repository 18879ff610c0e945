use Rattle.am_links.proofs.Ends.{end_test}
use Rattle.am_links.proofs.approvals.ends_with.Goals as goal

pub returns-then-text-end : goal.returns-then-text-end
returns-then-text-end c = end_test c.args.text.now c.args.end.now c.eq_ignore_ascii_case.result
    c.eq_ignore_ascii_case.ensures.test
