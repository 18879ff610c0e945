-- What is read is a query.
use Rattle.am_visible.proofs.Asked.{query_given}
use Rattle.am_visible.proofs.question.question_of.Goals as goal

pub returns-clause-query : goal.returns-clause-query
returns-clause-query c = query_given c.read_request.result c.args.text.now c.read_request.ensures
