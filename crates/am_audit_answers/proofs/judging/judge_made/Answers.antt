use Rattle.am_audit_answers.proofs.judging.judge_made.Goals as goal

pub returns : goal.returns
returns c = record {
  made = (c.in_ok-replayed.replayed, c.in_ok-replayed.taken);
  shows = c.in_ok-replayed.ensures;
  takes = c.accept_by.ensures;
}
