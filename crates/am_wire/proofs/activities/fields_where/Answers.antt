-- The fields of each branch are those of its list.
use Rattle.am_wire.proofs.activities.fields_where.Goals as goal

pub returns-then-more : goal.returns-then-more
returns-then-more c = rw c.if-more.true c.fields_of.ensures

pub returns-else-more : goal.returns-else-more
returns-else-more c = rw c.if-more.false c.fields_of-else-more.ensures
